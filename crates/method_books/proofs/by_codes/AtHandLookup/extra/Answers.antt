use Rattle.std.proofs.Common.{Some, ap, ◌∙◌}
use Rattle.method_books.proofs.NodeLaws.{extra_leaf}
use Rattle.method_books.proofs.by_codes.AtHandLookup.extra.Goals as goal

pub returns-in-None : goal.returns-in-None
returns-in-None c = let book = c.args.self.now.bounds.book.now in c.in-None.ensures ∙ extra_leaf book.map.parts book.extras.entries book.numbers c.args.id (book.covers c.args.id)

pub returns-in-Some : goal.returns-in-Some
returns-in-Some c = let book = c.args.self.now.bounds.book.now in ap Some c.view.ensures ∙ (c.in-Some.ensures ∙ extra_leaf book.map.parts book.extras.entries book.numbers c.args.id (book.covers c.args.id))
