use Rattle.std.proofs.Common.{◌≡◌, map, take}
use Rattle.sha2.specs.Sha256.{sha256}
use Rattle.book_model.specs.Books.{seed_text}
use Rattle.road_order.proofs.shuffled.with_digests.Given as goal

abbrev pub invariant-loop-id : goal.invariant-loop-id
invariant-loop-id l = l.keyed.items ≡ map (λ u. (sha256 (seed_text l.seed u), u)) (take l.id-index l.ids)
