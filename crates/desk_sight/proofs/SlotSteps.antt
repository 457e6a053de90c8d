-- One more slot of an area.
use Rattle.std.proofs.Common.{◌≡◌, ◌≢◌, ◌⊎◌, ℕ, ◌+◌, ◌<◌, ◌≤◌, List, arith, inl, inr, refl, sym, ◌∙◌, ap, subst, Some, None, Option, MatchOption, IfSome}
use Rattle.std.proofs.lemmas.Bool.{cases_lt}
use Rattle.desk_areas.specs.Layout.{place_in, gate_at}
use Rattle.desk_sight.specs.Texts.{IsZeroFrom, HasHeader}
use Rattle.desk_sight.specs.Slots.{IsOrderly, HasNone, IsLastOf, IsGreatestOf, IsGreater, AreBare, IsWaitingIn, IsSlots}
use Rattle.desk_sight.specs.declared.slots.Signed.{Signed}
use Rattle.desk_sight.specs.declared.slots.Slots.{Slots}

-- a fact about each number below a bound, and about the bound
one_more : (P : ℕ → Type 0) (number : ℕ) → ((k : ℕ) → k < number → P k) → P number → (k : ℕ) → k < number + 1 → P k
one_more P number below here k lt = elim (cases_lt k number) [
  | inl less ↦ below k less
  | inr not ↦ let is : number ≡ k = omega arith in subst P is here
]

module _ (image : List ℕ) (base number : ℕ) (tail : IsZeroFrom (place_in base number + 106) (place_in base number + 128) image) where
  tails_more : (spent : ℕ) → IsOrderly image base spent number → (k : ℕ) → k < number + 1 → IsZeroFrom (place_in base k + 106) (place_in base k + 128) image
  tails_more spent so = one_more (λ k. IsZeroFrom (place_in base k + 106) (place_in base k + 128) image) number so.tails tail

  -- a free slot
  pub free_more : (spent : ℕ) → IsOrderly image base spent number → gate_at image (place_in base number) ≡ 0
      → (spent < number → IsZeroFrom (place_in base number + 1) (place_in base number + 106) image) → IsOrderly image base spent (number + 1)
  free_more spent so shut empty = record {
    few = omega (arith, so.few);
    used = so.used;
    shut = λ k low high. elim (cases_lt k number) [
      | inl less ↦ so.shut k low less
      | inr not ↦ let is : number ≡ k = omega arith in subst (λ (n : ℕ). gate_at image (place_in base n) ≡ 0) is shut
    ];
    empty = λ k low high. elim (cases_lt k number) [
      | inl less ↦ so.empty k low less
      | inr not ↦ let is : number ≡ k = omega arith in subst (λ (n : ℕ). IsZeroFrom (place_in base n + 1) (place_in base n + 106) image) is (empty (omega arith))
    ];
    tails = tails_more spent so;
  }

  -- a spent slot after spent slots
  pub spent_more : IsOrderly image base number number → 0 < gate_at image (place_in base number) → IsOrderly image base (number + 1) (number + 1)
  spent_more so gate = record {
    few = omega arith;
    used = one_more (λ k. 0 < gate_at image (place_in base k)) number so.used gate;
    shut = λ k low high. absurd (omega arith);
    empty = λ k low high. absurd (omega arith);
    tails = tails_more number so;
  }

  module _ (found : Option Signed) (some : IfSome found (HasHeader image (place_in base number))) (one : (signed : Signed) → HasHeader image (place_in base number) signed → found ≡ Some signed) where
    -- the header that waits in the first free slot
    waits : MatchOption found ((signed : Signed) → IsWaitingIn image base number (number + 1) signed → ⊥) (IsWaitingIn image base number (number + 1))
    waits = go found some one
      where
        go : (f : Option Signed) → IfSome f (HasHeader image (place_in base number)) → ((signed : Signed) → HasHeader image (place_in base number) signed → f ≡ Some signed)
            → MatchOption f ((signed : Signed) → IsWaitingIn image base number (number + 1) signed → ⊥) (IsWaitingIn image base number (number + 1))
        go None some one = λ signed is. let no = one signed is.header in cc
        go (Some it) some one = record { free = omega arith; header = some }

    pub first_free_more : (slots : Slots) → slots.spent ≡ number → IsSlots image base number slots → gate_at image (place_in base number) ≡ 0
        → IsSlots image base (number + 1) (record { spent = slots.spent; last = slots.last; greatest = slots.greatest; waiting = found })
    first_free_more slots is so shut = record {
      orderly = free_more slots.spent so.orderly shut (λ lt. absurd (omega (arith, lt, is)));
      last = so.last;
      greatest = so.greatest;
      waiting = subst (λ (n : ℕ). MatchOption found ((signed : Signed) → IsWaitingIn image base n (number + 1) signed → ⊥) (IsWaitingIn image base n (number + 1))) (sym is) waits;
    }

  -- a later free slot
  pub later_free_more : (slots : Slots) → slots.spent ≢ number → IsSlots image base number slots → gate_at image (place_in base number) ≡ 0
      → IsZeroFrom (place_in base number + 1) (place_in base number + 106) image → IsSlots image base (number + 1) slots
  later_free_more slots ne so shut empty = record {
    orderly = free_more slots.spent so.orderly shut (λ lt. empty);
    last = so.last;
    greatest = so.greatest;
    waiting = go slots.waiting so.waiting;
  }
    where
      below : slots.spent < number
      below = let few = so.orderly.few in omega (arith, few, ne)

      go : (w : Option Signed) → MatchOption w ((signed : Signed) → IsWaitingIn image base slots.spent number signed → ⊥) (IsWaitingIn image base slots.spent number)
          → MatchOption w ((signed : Signed) → IsWaitingIn image base slots.spent (number + 1) signed → ⊥) (IsWaitingIn image base slots.spent (number + 1))
      go None was = λ signed is. was signed (record { free = below; header = is.header })
      go (Some it) was = record { free = omega (arith, below); header = was.header }

-- ---- headers of spent slots

module _ (image : List ℕ) (base number : ℕ) where
  bare_more : AreBare image base number → HasNone image (place_in base number) → AreBare image base (number + 1)
  bare_more so none = one_more (λ k. HasNone image (place_in base k)) number so none

  -- a slot without a header
  pub last_bare : (last : Option Signed) → HasNone image (place_in base number) → MatchOption last (AreBare image base number) (IsLastOf image base number)
      → MatchOption last (AreBare image base (number + 1)) (IsLastOf image base (number + 1))
  last_bare None none so = bare_more so none
  last_bare (Some it) none so = record {
    number = so.number;
    known = omega (arith, so.known);
    header = so.header;
    later = λ k low high. elim (cases_lt k number) [
      | inl less ↦ so.later k low less
      | inr not ↦ let is : number ≡ k = omega arith in subst (λ (n : ℕ). HasNone image (place_in base n)) is none
    ];
  }

  pub greatest_bare : (greatest : Option ℕ) → HasNone image (place_in base number) → MatchOption greatest (AreBare image base number) (IsGreatestOf image base number)
      → MatchOption greatest (AreBare image base (number + 1)) (IsGreatestOf image base (number + 1))
  greatest_bare None none so = bare_more so none
  greatest_bare (Some it) none so = record {
    number = so.number;
    known = omega (arith, so.known);
    signed = so.signed;
    header = so.header;
    is = so.is;
    most = λ k other lt has. elim (cases_lt k number) [
      | inl less ↦ so.most k other less has
      | inr not ↦ let is : k ≡ number = omega arith in absurd (none other (subst (λ (n : ℕ). HasHeader image (place_in base n) other) is has))
    ];
  }

  module _ (signed : Signed) (has : HasHeader image (place_in base number) signed) (one : (other : Signed) → HasHeader image (place_in base number) other → Some signed ≡ Some other) where
    -- a slot with a header
    pub last_here : IsLastOf image base (number + 1) signed
    last_here = record { number = number; known = omega arith; header = has; later = λ k low high. absurd (omega arith) }

    at_most : (other : Signed) (version : ℕ) → signed.version ≤ version → HasHeader image (place_in base number) other → other.version ≤ version
    at_most other version le it = let same : signed ≡ other = (let so = one other it in cc) in subst (λ (s : Signed). s.version ≤ version) same le

    pub greatest_here : (greatest : Option ℕ) (version : ℕ) → MatchOption greatest (AreBare image base number) (IsGreatestOf image base number)
        → IsGreater greatest signed.version version
        → IsGreatestOf image base (number + 1) version
    greatest_here None version so most = record {
      number = number;
      known = omega arith;
      signed = signed;
      header = has;
      is = sym most.either;
      most = λ k other lt it. elim (cases_lt k number) [
        | inl less ↦ absurd (so k less other it)
        | inr not ↦ let is : k ≡ number = omega arith in at_most other version most.second_at_most (subst (λ (n : ℕ). HasHeader image (place_in base n) other) is it)
      ];
    }
    greatest_here (Some old) version so most = elim most.either as (λ _. IsGreatestOf image base (number + 1) version) [
      | inl is ↦ record { number = so.number; known = omega (arith, so.known); signed = so.signed; header = so.header; is = so.is ∙ sym is; most = all }
      | inr is ↦ record { number = number; known = omega arith; signed = signed; header = has; is = sym is; most = all }
    ]
      where
        all : (k : ℕ) (other : Signed) → k < number + 1 → HasHeader image (place_in base k) other → other.version ≤ version
        all k other lt it = elim (cases_lt k number) [
          | inl less ↦ let le = so.most k other less it in let old_le = most.first_at_most in omega (arith, le, old_le)
          | inr not ↦ let is : k ≡ number = omega arith in at_most other version most.second_at_most (subst (λ (n : ℕ). HasHeader image (place_in base n) other) is it)
        ]

-- ---- the whole of a spent slot

module _ (image : List ℕ) (base number : ℕ) (tail : IsZeroFrom (place_in base number + 106) (place_in base number + 128) image) (slots : Slots) (here : slots.spent ≡ number) (so : IsSlots image base number slots) (gate : 0 < gate_at image (place_in base number)) where
  orderly_here : IsOrderly image base number number
  orderly_here = subst (λ (n : ℕ). IsOrderly image base n number) here so.orderly

  last_so : MatchOption slots.last (AreBare image base number) (IsLastOf image base number)
  last_so = subst (λ (n : ℕ). MatchOption slots.last (AreBare image base n) (IsLastOf image base n)) here so.last

  greatest_so : MatchOption slots.greatest (AreBare image base number) (IsGreatestOf image base number)
  greatest_so = subst (λ (n : ℕ). MatchOption slots.greatest (AreBare image base n) (IsGreatestOf image base n)) here so.greatest

  pub bare_spent_more : HasNone image (place_in base number) → IsSlots image base (number + 1) (record { spent = number + 1; last = slots.last; greatest = slots.greatest; waiting = None })
  bare_spent_more none = record {
    orderly = spent_more image base number tail orderly_here gate;
    last = last_bare image base number slots.last none last_so;
    greatest = greatest_bare image base number slots.greatest none greatest_so;
    waiting = λ signed is. let free = is.free in omega (arith, free);
  }

  pub signed_spent_more : (signed : Signed) (version : ℕ) → HasHeader image (place_in base number) signed → ((other : Signed) → HasHeader image (place_in base number) other → Some signed ≡ Some other)
      → IsGreater slots.greatest signed.version version
      → IsSlots image base (number + 1) (record { spent = number + 1; last = Some signed; greatest = Some version; waiting = None })
  signed_spent_more signed version has one most = record {
    orderly = spent_more image base number tail orderly_here gate;
    last = last_here image base number signed has one;
    greatest = greatest_here image base number signed has one slots.greatest version greatest_so most;
    waiting = λ signed is. let free = is.free in omega (arith, free);
  }

-- no slot
pub no_slots : (image : List ℕ) (base : ℕ) → IsSlots image base 0 (record { spent = 0; last = None; greatest = None; waiting = None })
no_slots image base = record {
  orderly = record {
    few = omega arith;
    used = λ k lt. absurd (omega arith);
    shut = λ k low high. absurd (omega arith);
    empty = λ k low high. absurd (omega arith);
    tails = λ k lt. absurd (omega arith);
  };
  last = λ k lt. absurd (omega arith);
  greatest = λ k lt. absurd (omega arith);
  waiting = λ signed is. let free = is.free in omega (arith, free);
}
