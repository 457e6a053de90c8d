use Rattle.method_books.proofs.hyp.HypBookMethodBook.plan.Goals as goal

pub returns-in-Ok-clause-book : goal.returns-in-Ok-clause-book
returns-in-Ok-clause-book c = c.in-Ok.ensures.book c.args._order.now
