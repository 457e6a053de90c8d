-- A slot's text, found from the octets after its gate.
use Rattle.std.proofs.Common.{◌≡◌, ℕ, ◌+◌, ◌≤◌, min, List, ◌∷◌, length, get_or, take, drop, arith, sym, ◌∙◌, ap}
use Rattle.std.proofs.lemmas.List.{get_or-take, get_or-drop, drop-take, drop-drop, take-take}
use Rattle.road_io.specs.Disk.{written}
use Rattle.road_io.proofs.WrittenLaws.{written_inside}
use Rattle.desk_areas.specs.Layout.{text_at}

pub text_of_octets : (place : ℕ) (x octets : List ℕ) → octets ≡ take 127 (drop (place + 1) x) → text_at x place ≡ take (min (get_or octets 0 0) 126) (drop 1 octets)
text_of_octets place x octets is =
    let more : place + 1 ≡ (place + 1) + 0 = omega arith in
    let two : place + 2 ≡ (place + 1) + 1 = omega arith in
    let len : get_or x (place + 1) 0 ≡ get_or octets 0 0 =
    ap (λ (k : ℕ). get_or x k 0) more ∙ sym (get_or-drop (place + 1) x 0 0) ∙ sym (get_or-take 127 (drop (place + 1) x) 0 0 (omega arith)) ∙ ap (λ (l : List ℕ). get_or l 0 0) (sym is) in
    let m = min (get_or octets 0 0) 126 in
    let rest : drop 1 octets ≡ take 126 (drop (place + 2) x) =
    ap (λ (l : List ℕ). drop 1 l) is ∙ drop-take 1 126 (drop (place + 1) x) ∙ ap (λ (l : List ℕ). take 126 l) (drop-drop 1 (place + 1) x ∙ ap (λ (k : ℕ). drop k x) (sym two)) in
    ap (λ (k : ℕ). take (min k 126) (drop (place + 2) x)) len
    ∙ sym (take-take m 126 (drop (place + 2) x) (omega arith))
    ∙ ap (λ (l : List ℕ). take m l) (sym rest)

-- a text after its length octet, once they are written behind the gate
pub text_written : (place : ℕ) (d text octets : List ℕ) → place + 128 ≤ length d → length text ≤ 126 → octets ≡ length text ∷ text → text_at (written (place + 1) octets d) place ≡ text
text_written place d text octets fits short is =
    let size : length octets ≡ 1 + length text = rw is (omega arith) in
    let w = written (place + 1) octets d in
    let inside : take (1 + length text) (drop (place + 1) w) ≡ octets = rw (← size) (written_inside (place + 1) octets d (omega arith)) in
    let two : place + 2 ≡ (place + 1) + 1 = omega arith in
    let more : place + 1 ≡ (place + 1) + 0 = omega arith in
    let len : get_or w (place + 1) 0 ≡ length text =
    ap (λ (k : ℕ). get_or w k 0) more ∙ sym (get_or-drop (place + 1) w 0 0) ∙ sym (get_or-take (1 + length text) (drop (place + 1) w) 0 0 (omega arith)) ∙ ap (λ (l : List ℕ). get_or l 0 0) (inside ∙ is) in
    let few : min (length text) 126 ≡ length text = omega arith in
    ap (λ (k : ℕ). take (min k 126) (drop (place + 2) w)) len
    ∙ ap (λ (k : ℕ). take k (drop (place + 2) w)) few
    ∙ ap (λ (k : ℕ). take (length text) (drop k w)) two
    ∙ ap (λ (l : List ℕ). take (length text) l) (sym (drop-drop 1 (place + 1) w))
    ∙ sym (drop-take 1 (length text) (drop (place + 1) w))
    ∙ ap (λ (l : List ℕ). drop 1 l) (inside ∙ is)
