use Rattle.method_books.specs.LdmBooks.{ldm_book}
use Rattle.method_books.proofs.CodeBounds.{low_bounds}
use Rattle.method_books.proofs.ldm.LdmBookMethodBook.plan.Goals as goal

pub invariant_of-result-clause-low : goal.invariant_of-result-clause-low
invariant_of-result-clause-low c = λ to. low_bounds (ldm_book c.args.map.parts c.in-Ok.coded.extras.entries c.in-Ok.coded.numbers) c.args.map.order to c.parts-parts.ensures.is_map c.in-Ok.ensures.vectors
