use Rattle.std.proofs.Common.{◌∙◌, sym, ap, inr, None}
use Rattle.book_model.specs.Books.{settings_fault}
use Rattle.method_books.proofs.dij.DijBookMethodBook.plan.Goals as goal

pub returns-in-None-clause-allowed : goal.returns-in-None-clause-allowed
returns-in-None-clause-allowed c = ap (λ o. settings_fault o None) (sym (c.first_parameter.ensures c.args.map.parts) ∙ c.in-None.is)

pub returns-in-Some-clause-refused : goal.returns-in-Some-clause-refused
returns-in-Some-clause-refused c = inr (ap (λ o. settings_fault o None) (sym (c.first_parameter.ensures c.args.map.parts) ∙ c.in-Some.is))
