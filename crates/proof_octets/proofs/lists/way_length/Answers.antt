use Rattle.std.proofs.Common.{◌≡◌, ◌+◌, ◌*◌, ◌≤◌, ℕ, List, [], ◌∷◌, length, ap, arith}
use Rattle.std.specs.List.{flat_map}
use Rattle.std.specs.Int.{w32, to_be_bytes}
use Rattle.std.proofs.lemmas.List.{length-append}
use Rattle.proof_octets.specs.Writing.{way_text}
use Rattle.proof_octets.proofs.TextRoom.{all_short}
use Rattle.proof_octets.proofs.lists.way_length.Goals as goal

way_long : (ids : List ℕ) → 1 ≤ length ids → length (way_text ids) ≡ 4 + 4 * length ids
way_long [] some = absurd (omega (arith, some))
way_long (id ∷ ids) some = omega (arith, length-append (to_be_bytes w32 (length (id ∷ ids))) (flat_map (to_be_bytes w32) (id ∷ ids)), all_short (to_be_bytes w32) 4 (λ n. omega arith) (id ∷ ids))

pub returns-clause-value : goal.returns-clause-value
returns-clause-value c =
    let same : length c.as_slice-count.result.now ≡ length c.args.ids.now = ap (λ (xs : List ℕ). length xs) c.as_slice-count.ensures in
    let some : 1 ≤ length c.args.ids.now = omega (arith, same, c.if-count-eq0.false) in
    omega (arith, way_long c.args.ids.now some, same)
