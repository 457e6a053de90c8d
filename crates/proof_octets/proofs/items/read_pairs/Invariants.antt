use Rattle.std.proofs.Common.{◌≡◌, ◌-◌, List, map}
use Rattle.octet_text.specs.Format.{rows_at}
use Rattle.octet_text.proofs.Loop.{Begun}
use Rattle.proof_octets.specs.declared.items.PairItem.{PairItem}
use Rattle.proof_octets.specs.Replies.{pair_item, after_pair}
use Rattle.proof_octets.proofs.items.read_pairs.Given as goal

-- the items so far, and their parts
abbrev pub invariant-loop : goal.invariant-loop
invariant-loop l =
    (front : List PairItem) × Begun pair_item after_pair front (l.count - l.counter) l.least l.cursor (rows_at pair_item after_pair l.count 0 l.fn.cursor) ×
    (l.places.items ≡ map (λ (i : PairItem). i.place) front) × (l.leaves.items ≡ map (λ (i : PairItem). i.leaf) front)
