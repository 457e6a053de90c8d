-- The reduction of a signature whose values are all the key's own.
use Rattle.std.proofs.Common.{◌≡◌, ℕ, ◌+◌, ◌*◌, ◌<◌, ◌≤◌, List, get_or, take, drop, Option, Some, None, refl, sym, ap, subst, ◌∙◌, arith, inl, inr}
use Rattle.std.proofs.lemmas.Bool.{cases_lt}
use Rattle.std.proofs.lemmas.List.{drop-drop}
use Rattle.lms_ots.specs.Chains.{chain_of, secret_of}
use Rattle.lms_tree.specs.Signatures.{KeyOf, number_at}
use Rattle.lms_reduce.specs.Comparing.{ShowsOwn, IsFirstLesser}
use Rattle.lms_reduce.specs.Released.{claimed_digits, signed_digits, IsUnreleased}
use Rattle.lms_reduce.specs.Reduction.{ShowsUnreleased}
use Rattle.lms_reduce.proofs.RootLemmas.{take-inside}

-- a value of the one-time signature, within the whole signature
pub value-at : (at : ℕ) (sig : List ℕ) → at < 34 → take 32 (drop (36 + 32 * at) (take 1124 (drop 4 sig))) ≡ take 32 (drop (40 + 32 * at) sig)
value-at at sig l =
    let e : 4 + (36 + 32 * at) ≡ 40 + 32 * at = omega arith in
    take-inside (36 + 32 * at) 32 1124 (drop 4 sig) (omega (arith, l)) ∙ ap (take 32) (drop-drop (36 + 32 * at) 4 sig ∙ ap (λ n. drop n sig) e)

-- the first index at which the slot has not released the value shown
shows-first : (key : KeyOf) (spent : Option (List ℕ)) (text sig digits : List ℕ) (q at : ℕ) → at < 34 → q ≡ number_at sig 0 → digits ≡ claimed_digits key text sig → ShowsOwn key.i q key.seed (claimed_digits key text sig) (take 1124 (drop 4 sig)) → IsUnreleased key q spent at (get_or digits at 0) → ((b : ℕ) → b < 34 → IsUnreleased key q spent b (get_or digits b 0) → at ≤ b) → ShowsUnreleased key spent text sig q at (get_or digits at 0) (take 32 (drop (40 + 32 * at) sig))
shows-first key spent text sig digits q at l slot d own free first =
    let step : get_or digits at 0 ≡ get_or (claimed_digits key text sig) at 0 = ap (λ (x : List ℕ). get_or x at 0) d in
    record {
      of_slot = slot;
      place = l;
      of_digit = step;
      shown = refl;
      own = sym (value-at at sig l) ∙ own.values at l ∙ ap (λ n. chain_of key.i q at 0 n (secret_of key.i q key.seed at)) (sym step);
      unreleased = free;
      least = λ b lt u. first b lt (subst (λ (x : List ℕ). IsUnreleased key q spent b (get_or x b 0)) (sym d) u);
    }

-- for a slot that signed no text, the first value
pub shows-any : (key : KeyOf) (text sig digits : List ℕ) (q : ℕ) → q ≡ number_at sig 0 → digits ≡ claimed_digits key text sig → ShowsOwn key.i q key.seed (claimed_digits key text sig) (take 1124 (drop 4 sig)) → ShowsUnreleased key None text sig q 0 (get_or digits 0 0) (take 32 (drop (40 + 32 * 0) sig))
shows-any key text sig digits q slot d own =
    shows-first key None text sig digits q 0 (omega arith) slot d own tt (λ b _ _. omega arith)

-- for a slot that signed another text, the first value whose digit is less
pub shows-lesser : (key : KeyOf) (other text sig digits others : List ℕ) (q at : ℕ) → q ≡ number_at sig 0 → digits ≡ claimed_digits key text sig → others ≡ signed_digits key q other → ShowsOwn key.i q key.seed (claimed_digits key text sig) (take 1124 (drop 4 sig)) → IsFirstLesser digits others at → ShowsUnreleased key (Some other) text sig q at (get_or digits at 0) (take 32 (drop (40 + 32 * at) sig))
shows-lesser key other text sig digits others q at slot d o own f =
    let later : (b : ℕ) → get_or others b 0 ≡ get_or (signed_digits key q other) b 0 = λ b. ap (λ (x : List ℕ). get_or x b 0) o in
    shows-first key (Some other) text sig digits q at f.place slot d own (omega (arith, f.lesser, later at))
    (λ b lt u. below b (get_or digits b 0) (get_or others b 0) at (omega (arith, u, later b)) (f.before b))
  where
    below : (b x y at : ℕ) → x < y → (b < at → y ≤ x) → at ≤ b
    below b x y at l f = elim (cases_lt b at) [ inl lt ↦ absurd (omega (arith, l, f lt)) | inr le ↦ le ]
