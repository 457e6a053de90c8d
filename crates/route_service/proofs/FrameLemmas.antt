-- Parts of frames.
use Rattle.std.proofs.Common.{refl, ap, append-nil, zero, suc, [], ◌∷◌, sym, subst, ◌∙◌, get_or, take_all, Option, ◌≡◌, ℕ, ◌+◌, ◌≤◌, ◌<◌, ◌^◌, List, ◌++◌, length, take, arith}
use Rattle.std.specs.Int.{w32, to_be_bytes}
use Rattle.std.proofs.lemmas.Nat.{from_be_bytes-to_be_bytes_4}
use Rattle.std.specs.declared.option.Option.TheVariants.{Some}
use Rattle.std.specs.Io.KnownBytes.{Consumes}
use Rattle.road_io.proofs.ReadLemmas.{Consumes-++}
use Rattle.route_service.specs.Frames.{frame_of, IsPart, IsTooLong}

pub part_head : (most : ℕ) (octets : List ℕ) → length octets < 4 → IsPart most octets
part_head most octets short = record { whole = λ long. absurd (omega (arith, short, long)) }

pub part_body : (most size : ℕ) (octets : List ℕ) → size < 2 ^ 32 → size ≤ most → length octets < size → IsPart most (to_be_bytes w32 size ++ octets)
part_body most size octets small fits short = record { whole = λ long. let e = from_be_bytes-to_be_bytes_4 size small in (rw e fits, rw e (omega (arith, short))) }

pub too_long : (most size : ℕ) → size < 2 ^ 32 → most < size → IsTooLong most (to_be_bytes w32 size)
too_long most size small above = record { size = refl; above = rw (from_be_bytes-to_be_bytes_4 size small) above }

pub Consumes-frame : (left rest : Option (List ℕ)) (size : ℕ) (body : List ℕ) → length body ≡ size → Consumes left rest (to_be_bytes w32 size ++ body) → Consumes left rest (frame_of body)
unfolding frame_of
Consumes-frame left rest size body same took = rw same took

four : (xs : List ℕ) → length xs ≡ 4 → xs ≡ get_or xs 0 0 ∷ get_or xs 1 0 ∷ get_or xs 2 0 ∷ get_or xs 3 0 ∷ []
four [] e = absurd (omega (arith, e))
four (a ∷ []) e = absurd (omega (arith, e))
four (a ∷ b ∷ []) e = absurd (omega (arith, e))
four (a ∷ b ∷ c ∷ []) e = absurd (omega (arith, e))
four (a ∷ b ∷ c ∷ d ∷ []) e = refl
four (a ∷ b ∷ c ∷ d ∷ x ∷ xs) e = absurd (omega (arith, e))

pub Consumes-head : (left rest : Option (List ℕ)) (head : List ℕ) (n size : ℕ) → Consumes left rest (take n head) → n ≤ length head → 4 ≤ n → length head ≡ 4 →
    to_be_bytes w32 size ≡ get_or head 0 0 ∷ get_or head 1 0 ∷ get_or head 2 0 ∷ get_or head 3 0 ∷ [] → Consumes left rest (to_be_bytes w32 size)
Consumes-head left rest head n size took most least size_is is =
    subst (Consumes left rest) (take_all n head (omega (arith, most, least, size_is)) ∙ four head size_is ∙ sym is) took

pub bytes_four : (a b c d : ℕ) → a < 256 → b < 256 → c < 256 → d < 256 → (i : ℕ) → get_or (a ∷ b ∷ c ∷ d ∷ []) i 0 < 256
bytes_four a b c d ha hb hc hd zero = ha
bytes_four a b c d ha hb hc hd (suc zero) = hb
bytes_four a b c d ha hb hc hd (suc (suc zero)) = hc
bytes_four a b c d ha hb hc hd (suc (suc (suc zero))) = hd
bytes_four a b c d ha hb hc hd (suc (suc (suc (suc n)))) = omega arith

pub length_frame : (body : List ℕ) → length (frame_of body) ≡ 4 + length body
unfolding frame_of
length_frame body = omega arith

-- these octets are the whole contents of a source
pub Consumes_alone : (octets : List ℕ) → Consumes (Some octets) (Some []) octets
Consumes_alone octets = sym (append-nil octets)

-- and if more octets follow them, these are left
pub Consumes_before : (octets more text : List ℕ) → Consumes (Some octets) (Some []) text → Consumes (Some (octets ++ more)) (Some more) text
Consumes_before octets more text is = ap (λ t. t ++ more) (is ∙ append-nil text)

-- one text and then another, from a source with these contents
pub Consumes_both : (first next xs ys : List ℕ) → Consumes (Some first) (Some []) xs → Consumes (Some next) (Some []) ys → Consumes (Some (first ++ next)) (Some []) (xs ++ ys)
Consumes_both first next xs ys one other = Consumes-++ (Some (first ++ next)) (Some next) (Some []) xs ys (Consumes_before first next xs one) other
