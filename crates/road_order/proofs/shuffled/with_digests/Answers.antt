use Rattle.std.proofs.Common.{ℕ, List, ap, get_or}
use Rattle.sha2.specs.Sha256.{sha256}
use Rattle.book_model.specs.Books.{seed_text}
use Rattle.road_order.proofs.StepLaws.{map_step}
use Rattle.road_order.proofs.shuffled.with_digests.Goals as goal

pub loop-id-preserved : goal.loop-id-preserved
loop-id-preserved c =
    let id : ℕ = get_or c.args.ids.now c.loop-id.id-index 0 in
    map_step (λ u. (sha256 (seed_text c.args.seed u), u)) c.args.ids.now c.loop-id.id-index 0 c.loop-id.keyed.items c.push.new.list.items (c.digest_of.result, id) c.loop-id-test.true c.loop-id.invariant
    (ap (λ (d : List ℕ). (d, id)) c.digest_of.ensures)
    c.in_ok-push.ensures.items
