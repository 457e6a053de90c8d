-- Texts cut from one buffer.
use Rattle.std.proofs.Common.{◌≡◌, ℕ, suc, zero, ◌+◌, ◌-◌, ◌<◌, ◌≤◌, List, [], ◌∷◌, ◌++◌, length, get_or, take, drop, refl, sym, ap, ◌∙◌, arith, length-take, length-drop}
use Rattle.std.proofs.lemmas.List.{take-append-le, drop-append-le, take_all, drop_at}
use Rattle.merkle_cover.specs.Texts.{total_length, texts_of, EndsAt}

-- the ends ascend
pub EndsAt-le : (start : ℕ) (ends : List ℕ) (last : ℕ) → EndsAt start ends last → start ≤ last
EndsAt-le start [] last h = omega (arith, h)
EndsAt-le start (end ∷ ends) last h = omega (arith, h.0, EndsAt-le end ends last h.1)

pub length-texts_of : (octets : List ℕ) (start : ℕ) (ends : List ℕ) → length (texts_of octets start ends) ≡ length ends
length-texts_of octets start [] = refl
length-texts_of octets start (end ∷ ends) = ap suc (length-texts_of octets end ends)

-- all octets from the offset on belong to the texts
pub total_length-texts_of : (octets : List ℕ) (start : ℕ) (ends : List ℕ) → EndsAt start ends (length octets) → total_length (texts_of octets start ends) + start ≡ length octets
total_length-texts_of octets start [] h = omega (arith, h)
total_length-texts_of octets start (end ∷ ends) h =
    omega (arith, length-take (end - start) (drop start octets), length-drop start octets, h.0, EndsAt-le end ends (length octets) h.1, total_length-texts_of octets end ends h.1)

-- one more end
pub EndsAt-push : (start : ℕ) (ends : List ℕ) (last next : ℕ) → EndsAt start ends last → last ≤ next → EndsAt start (ends ++ next ∷ []) next
EndsAt-push start [] last next h le = (omega (arith, h), refl)
EndsAt-push start (end ∷ ends) last next h le = (h.0, EndsAt-push end ends last next h.1 le)

-- one more text
pub texts_of-push : (octets text : List ℕ) (start : ℕ) (ends : List ℕ) → EndsAt start ends (length octets) → texts_of (octets ++ text) start (ends ++ (length octets + length text) ∷ []) ≡ texts_of octets start ends ++ text ∷ []
texts_of-push octets text start [] h =
    let e : drop start (octets ++ text) ≡ text = drop_at octets text start (sym h) in
    let l : length text ≤ (length octets + length text) - start = omega (arith, h) in
    ap (λ t. t ∷ []) (ap (take ((length octets + length text) - start)) e ∙ take_all _ text l)
texts_of-push octets text start (end ∷ ends) h =
    let le : end ≤ length octets = EndsAt-le end ends (length octets) h.1 in
    let within : start ≤ length octets = omega (arith, h.0) in
    let e : drop start (octets ++ text) ≡ drop start octets ++ text = drop-append-le start octets text within in
    let room : end - start ≤ length (drop start octets) = omega (arith, length-drop start octets, h.0) in
    ap (λ t. t ∷ texts_of (octets ++ text) end (ends ++ (length octets + length text) ∷ [])) (ap (take (end - start)) e ∙ take-append-le (end - start) (drop start octets) text room)
    ∙ ap (λ r. take (end - start) (drop start octets) ∷ r) (texts_of-push octets text end ends h.1)

-- the offset of the text at an index
pub get_or-texts_of : (octets : List ℕ) (start : ℕ) (ends : List ℕ) (i : ℕ) → i < length ends → get_or (texts_of octets start ends) i [] ≡ take (get_or ends i 0 - get_or (start ∷ ends) i 0) (drop (get_or (start ∷ ends) i 0) octets)
get_or-texts_of octets start [] i h = absurd (omega (arith, h))
get_or-texts_of octets start (end ∷ ends) zero h = refl
get_or-texts_of octets start (end ∷ ends) (suc i) h = get_or-texts_of octets end ends i (omega (arith, h))

-- the bounds of the text at an index
pub EndsAt-at : (start : ℕ) (ends : List ℕ) (last i : ℕ) → EndsAt start ends last → i < length ends → (get_or (start ∷ ends) i 0 ≤ get_or ends i 0) × (get_or ends i 0 ≤ last)
EndsAt-at start [] last i h l = absurd (omega (arith, l))
EndsAt-at start (end ∷ ends) last zero h l = (h.0, EndsAt-le end ends last h.1)
EndsAt-at start (end ∷ ends) last (suc i) h l = EndsAt-at end ends last i h.1 (omega (arith, l))
