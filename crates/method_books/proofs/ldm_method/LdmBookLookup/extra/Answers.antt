use Rattle.std.proofs.Common.{Some, ap, ◌∙◌}
use Rattle.method_books.proofs.NodeLaws.{extra_leaf}
use Rattle.method_books.proofs.ldm_method.LdmBookLookup.extra.Goals as goal

pub returns-in-None : goal.returns-in-None
returns-in-None c = c.in-None.ensures ∙ extra_leaf c.args.self.now.map.parts c.args.self.now.extras.entries c.args.self.now.numbers c.args.id (c.args.self.now.covers c.args.id)

pub returns-in-Some : goal.returns-in-Some
returns-in-Some c = ap Some c.view.ensures ∙ (c.in-Some.ensures ∙ extra_leaf c.args.self.now.map.parts c.args.self.now.extras.entries c.args.self.now.numbers c.args.id (c.args.self.now.covers c.args.id))
