use Rattle.method_books.specs.LdmBooks.{reference_in}
use Rattle.method_books.proofs.NeedLaws.{one_referred}
use Rattle.method_books.proofs.near.with_references.Goals as goal

pub loop-id-preserved : goal.loop-id-preserved
loop-id-preserved c = one_referred (reference_in c.args.book.now.extras.entries) c.args.ids.now c.loop-id.id-index c.args.ids.now c.loop-id.all.items c.add_reference.new.ids.items c.loop-id-test.true c.loop-id.invariant c.in_ok-add_reference.ensures
