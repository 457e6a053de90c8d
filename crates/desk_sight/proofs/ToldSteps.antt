-- One more area, and the headers that it has signed.
use Rattle.std.proofs.Common.{◌≡◌, ◌≢◌, ◌⊎◌, ℕ, suc, ◌+◌, ◌<◌, ◌≤◌, List, arith, inl, inr, refl, sym, ◌∙◌, ap, subst, Some, None, Option, MatchOption, IsSomeAnd}
use Rattle.std.proofs.lemmas.Bool.{cases_lt}
use Rattle.desk_areas.specs.Layout.{SlotId, place_in, base_of, place_of, gate_at, gate_of}
use Rattle.desk_sight.specs.Texts.{HasHeader}
use Rattle.desk_sight.specs.Slots.{IsLastOf, IsGreatestOf, IsGreater, AreBare, IsSlots}
use Rattle.desk_sight.specs.Areas.{early_at}
use Rattle.desk_sight.specs.Sights.{HasSigned, HasNoneSigned, IsBehind, IsLastSigned, IsGreatestSigned, IsTold}
use Rattle.desk_sight.specs.declared.slots.Signed.{Signed}
use Rattle.desk_sight.specs.declared.slots.Slots.{Slots}
use Rattle.desk_sight.specs.declared.sight.Told.{Told}

pub none_told : (image : List ℕ) → IsTold image 0 (record { last = None; greatest = None })
none_told image = record {
  last = λ slot signed has. let no = has.area in absurd (omega (arith, no));
  greatest = λ slot signed has. let no = has.area in absurd (omega (arith, no));
}

module _ (image : List ℕ) (area base count : ℕ) (slots : Slots) (base_is : base ≡ base_of image area) (count_is : count ≡ early_at image area) (so : IsSlots image base count slots) where
  place_here : (slot : SlotId) → slot.area ≡ area → place_of image slot ≡ place_in base slot.number
  place_here slot is = ap (λ (a : ℕ). place_in (base_of image a) slot.number) is ∙ ap (λ (b : ℕ). place_in b slot.number) (sym base_is)

  -- a spent slot of the area is among its first slots
  number_low : (slot : SlotId) → slot.area ≡ area → slot.number < early_at image slot.area → 0 < gate_of image slot → slot.number < slots.spent
  number_low slot is early gate = elim (cases_lt slot.number slots.spent) [
    | inl less ↦ less
    | inr not ↦
        let low : slot.number < count = omega (arith, early, count_is, ap (λ (a : ℕ). early_at image a) is) in
        let shut : gate_at image (place_in base slot.number) ≡ 0 = so.orderly.shut slot.number not low in
        let shut_here : gate_of image slot ≡ 0 = ap (λ (p : ℕ). gate_at image p) (place_here slot is) ∙ shut in
        absurd (omega (arith, shut_here, gate))
  ]

  header_there : (slot : SlotId) (signed : Signed) → slot.area ≡ area → HasHeader image (place_of image slot) signed → HasHeader image (place_in base slot.number) signed
  header_there slot signed is has = subst (λ (p : ℕ). HasHeader image p signed) (place_here slot is) has

  -- a slot of the area with this number
  abbrev here : ℕ → SlotId
  here number = record { area = area; number = number }

  place_of_here : (number : ℕ) → place_in base number ≡ place_of image (record { area = area; number = number })
  place_of_here number = ap (λ (b : ℕ). place_in b number) base_is

  has_here : (number : ℕ) (signed : Signed) → number < slots.spent → HasHeader image (place_in base number) signed → HasSigned image (area + 1) (record { area = area; number = number }) signed
  has_here number signed low has = record {
    area = omega arith;
    early = let few = so.orderly.few in omega (arith, low, few, count_is);
    spent = subst (λ (p : ℕ). 0 < gate_at image p) (place_of_here number) (so.orderly.used number low);
    header = subst (λ (p : ℕ). HasHeader image p signed) (place_of_here number) has;
  }

  -- a header that the areas up to this one have signed was signed by an earlier area or by this one
  before_or : (slot : SlotId) (signed : Signed) → HasSigned image (area + 1) slot signed
      → HasSigned image area slot signed ⊎ ((slot.area ≡ area) × (slot.number < slots.spent) × HasHeader image (place_in base slot.number) signed)
  before_or slot signed has = elim (cases_lt slot.area area) [
    | inl less ↦ inl (record { area = less; early = has.early; spent = has.spent; header = has.header })
    | inr not ↦
        let le = has.area in
        let is : slot.area ≡ area = omega (arith, le, not) in
        inr (is, number_low slot is has.early has.spent, header_there slot signed is has.header)
  ]

  more : (slot : SlotId) (signed : Signed) → HasSigned image area slot signed → HasSigned image (area + 1) slot signed
  more slot signed has = let low = has.area in record { area = omega (arith, low); early = has.early; spent = has.spent; header = has.header }

  module _ (bare : AreBare image base slots.spent) where
    only_before : (slot : SlotId) (signed : Signed) → HasSigned image (area + 1) slot signed → HasSigned image area slot signed
    only_before slot signed has = elim (before_or slot signed has) [
      | inl old ↦ old
      | inr it ↦ absurd (bare slot.number it.1 signed it.2)
    ]

    none_more : HasNoneSigned image area → HasNoneSigned image (area + 1)
    none_more none slot signed has = none slot signed (only_before slot signed has)

    last_more : (last : Option Signed) → MatchOption last (HasNoneSigned image area) (IsLastSigned image area) → MatchOption last (HasNoneSigned image (area + 1)) (IsLastSigned image (area + 1))
    last_more None was = none_more was
    last_more (Some it) was = record { slot = was.slot; has = more was.slot it was.has; later = λ other signed behind has. was.later other signed behind (only_before other signed has) }

    greatest_more : (greatest : Option ℕ) → MatchOption greatest (HasNoneSigned image area) (IsGreatestSigned image area) → MatchOption greatest (HasNoneSigned image (area + 1)) (IsGreatestSigned image (area + 1))
    greatest_more None was = none_more was
    greatest_more (Some it) was = record { slot = was.slot; signed = was.signed; has = more was.slot was.signed was.has; is = was.is; most = λ other signed has. was.most other signed (only_before other signed has) }

  last_now : (signed : Signed) → IsLastOf image base slots.spent signed → IsLastSigned image (area + 1) signed
  last_now signed last = record {
    slot = here last.number;
    has = has_here last.number signed last.known last.header;
    later = λ other it behind has. elim behind [
      | inl above ↦ let low = has.area in absurd (omega (arith, low, above))
      | inr same ↦ elim (before_or other it has) [
        | inl old ↦ let low = old.area in let is = same.0 in absurd (omega (arith, low, is))
        | inr now ↦ last.later other.number same.1 now.1 it now.2
      ]
    ];
  }

  pub told_last : (before now result : Option Signed) → MatchOption now (AreBare image base slots.spent) (IsLastOf image base slots.spent) → MatchOption before (HasNoneSigned image area) (IsLastSigned image area)
      → MatchOption now (result ≡ before) (λ signed. result ≡ Some signed) → MatchOption result (HasNoneSigned image (area + 1)) (IsLastSigned image (area + 1))
  told_last before None result last was is = subst (λ (r : Option Signed). MatchOption r (HasNoneSigned image (area + 1)) (IsLastSigned image (area + 1))) (sym is) (last_more last before was)
  told_last before (Some signed) result last was is = subst (λ (r : Option Signed). MatchOption r (HasNoneSigned image (area + 1)) (IsLastSigned image (area + 1))) (sym is) (last_now signed last)

  greatest_now : (before : Option ℕ) (version greater : ℕ) → IsGreatestOf image base slots.spent version → MatchOption before (HasNoneSigned image area) (IsGreatestSigned image area)
      → IsGreater before version greater → IsGreatestSigned image (area + 1) greater
  greatest_now None version greater now was most = record {
    slot = here now.number;
    signed = now.signed;
    has = has_here now.number now.signed now.known now.header;
    is = now.is ∙ sym most.either;
    most = λ other it has. elim (before_or other it has) [
      | inl old ↦ absurd (was other it old)
      | inr that ↦ let le = now.most other.number it that.1 that.2 in let second = most.second_at_most in omega (arith, le, second)
    ];
  }
  greatest_now (Some old) version greater now was most = elim most.either as (λ _. IsGreatestSigned image (area + 1) greater) [
    | inl is ↦ record { slot = was.slot; signed = was.signed; has = more was.slot was.signed was.has; is = was.is ∙ sym is; most = all }
    | inr is ↦ record { slot = here now.number; signed = now.signed; has = has_here now.number now.signed now.known now.header; is = now.is ∙ sym is; most = all }
  ]
    where
      all : (other : SlotId) (it : Signed) → HasSigned image (area + 1) other it → it.version ≤ greater
      all other it has = elim (before_or other it has) [
        | inl before ↦ let le = was.most other it before in let first = most.first_at_most in omega (arith, le, first)
        | inr that ↦ let le = now.most other.number it that.1 that.2 in let second = most.second_at_most in omega (arith, le, second)
      ]

  some_greatest : (before : Option ℕ) (version : ℕ) → IsGreatestOf image base slots.spent version → MatchOption before (HasNoneSigned image area) (IsGreatestSigned image area)
      → (result : Option ℕ) → IsSomeAnd result (IsGreater before version) → MatchOption result (HasNoneSigned image (area + 1)) (IsGreatestSigned image (area + 1))
  some_greatest before version now was None is = elim is [ ]
  some_greatest before version now was (Some greater) is = greatest_now before version greater now was is

  pub told_greatest : (before now result : Option ℕ) → MatchOption now (AreBare image base slots.spent) (IsGreatestOf image base slots.spent) → MatchOption before (HasNoneSigned image area) (IsGreatestSigned image area)
      → MatchOption now (result ≡ before) (λ version. IsSomeAnd result (IsGreater before version)) → MatchOption result (HasNoneSigned image (area + 1)) (IsGreatestSigned image (area + 1))
  told_greatest before None result now was is = subst (λ (r : Option ℕ). MatchOption r (HasNoneSigned image (area + 1)) (IsGreatestSigned image (area + 1))) (sym is) (greatest_more now before was)
  told_greatest before (Some version) result now was is = some_greatest before version now was result is
