use Rattle.std.proofs.Common.{take}
use Rattle.std.specs.List.{flat_map}
use Rattle.octet_text.specs.Puts.{Puts}
use Rattle.proof_octets.specs.Writing.{placed_text}
use Rattle.proof_octets.specs.Placed.{text_at}
use Rattle.proof_octets.proofs.item_writing.put_texts.Given as goal

abbrev pub invariant-loop-place : goal.invariant-loop-place
invariant-loop-place l = Puts l.fn.out.items l.out.items (flat_map (λ p. placed_text p (text_at l.texts p)) (take l.place-index l.places))
