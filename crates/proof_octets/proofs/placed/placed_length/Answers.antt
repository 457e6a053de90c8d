use Rattle.std.proofs.Common.{◌≡◌, ℕ, List, length, ap, arith, ◌∙◌}
use Rattle.std.specs.List.{flat_map}
use Rattle.proof_octets.specs.Placed.{text_at}
use Rattle.proof_octets.specs.Writing.{placed_text}
use Rattle.proof_octets.proofs.PlacedTexts.{placed_long}
use Rattle.proof_octets.proofs.placed.placed_length.Goals as goal

pub returns : goal.returns
returns c =
    let at : ℕ → List ℕ = λ p. placed_text p (text_at c.args.texts.now p) in
    let nodes : c.texts_length-nodes.result ≡ length (flat_map at c.args.answer.now.node_places) = c.texts_length-nodes.ensures.value ∙ ap (λ (xs : List ℕ). length (flat_map at xs)) c.as_slice-2.ensures in
    omega (
      arith,
      placed_long c.args.answer.now c.args.texts.now c.requires.told.0 c.requires.told.1,
      c.way_length.ensures.value,
      nodes,
      ap (λ (xs : List ℕ). length xs) c.as_slice.ensures,
      ap (λ (xs : List ℕ). length xs) c.as_slice-3.ensures,
      ap (λ (xs : List (List ℕ)). length xs) c.as_slice-4.ensures,
      ap (λ (xs : List (List ℕ)). length xs) c.as_slice-5.ensures,
    )
