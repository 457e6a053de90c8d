use Rattle.std.proofs.Common.{◌≡◌, ◌*◌, ◌≤◌, take, length}
use Rattle.std.specs.List.{flat_map}
use Rattle.proof_octets.specs.Writing.{placed_text}
use Rattle.proof_octets.specs.Placed.{text_at}
use Rattle.proof_octets.proofs.item_writing.texts_length.Given as goal

abbrev pub invariant-loop-place : goal.invariant-loop-place
invariant-loop-place l = (l.length ≡ length (flat_map (λ p. placed_text p (text_at l.texts p)) (take l.place-index l.places))) × (l.length ≤ 65541 * l.place-index)
