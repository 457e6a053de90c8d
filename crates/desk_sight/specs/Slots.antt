-- The slots of an area before its last one, as runs and crashes leave them. The first ones are spent, and the
-- others are not. Of those that are not spent, only the first may hold a text. No text is longer than a header.
use Rattle.std.specs.Prelude.{◌≡◌, ◌⊎◌, ℕ, ◌+◌, ◌<◌, ◌≤◌, List, MatchOption}
use Rattle.std.specs.declared.option.Option.{Option}
use Rattle.std.specs.declared.option.Option.TheVariants.{None, Some}
use Rattle.desk_areas.specs.Layout.{place_in, gate_at}
use Rattle.desk_sight.specs.Texts.{IsZeroFrom, HasHeader}
use Rattle.desk_sight.specs.declared.slots.Signed.{Signed}
use Rattle.desk_sight.specs.declared.slots.Slots.{Slots}
use Rattle.desk_sight.specs.declared.strange.Strange.{Strange}
use Rattle.desk_sight.specs.declared.strange.Strange.TheVariants.{Gap, Text, Block, Tail, Link, Shut}

-- of this many slots of the area at a base, the first ones are spent, and the others satisfy the rule above
pub record IsOrderly (image : List ℕ) (base spent count : ℕ) : Type 0 where
  pub few : spent ≤ count
  pub used : (k : ℕ) → k < spent → 0 < gate_at image (place_in base k)
  pub shut : (k : ℕ) → spent ≤ k → k < count → gate_at image (place_in base k) ≡ 0
  pub empty : (k : ℕ) → spent < k → k < count →
      IsZeroFrom (place_in base k + 1) (place_in base k + 106) image
  pub tails : (k : ℕ) → k < count →
      IsZeroFrom (place_in base k + 106) (place_in base k + 128) image

-- the slot at an offset holds no header
abbrev pub HasNone : List ℕ → ℕ → Type 0
HasNone image place = (signed : Signed) → HasHeader image place signed → ⊥

-- this is the header of the last of the first slots that have one
pub record IsLastOf (image : List ℕ) (base spent : ℕ) (signed : Signed) : Type 0 where
  pub number : ℕ
  pub known : number < spent
  pub header : HasHeader image (place_in base number) signed
  pub later : (k : ℕ) → number < k → k < spent → HasNone image (place_in base k)

-- this is the greatest version of the headers of the first slots
pub record IsGreatestOf (image : List ℕ) (base spent version : ℕ) : Type 0 where
  pub number : ℕ
  pub known : number < spent
  pub signed : Signed
  pub header : HasHeader image (place_in base number) signed
  pub is : signed.version ≡ version
  pub most : (k : ℕ) (other : Signed) → k < spent → HasHeader image (place_in base k) other →
      other.version ≤ version

-- the greater of two versions; the first one is optional
pub record IsGreater (first : Option ℕ) (second greater : ℕ) : Type 0 where
  pub either : MatchOption first (greater ≡ second) (λ v. (greater ≡ v) ⊎ (greater ≡ second))
  pub second_at_most : second ≤ greater
  pub first_at_most : MatchOption first (Unit {0}) (λ v. v ≤ greater)

-- none of the first slots has a header
abbrev pub AreBare : List ℕ → ℕ → ℕ → Type 0
AreBare image base spent = (k : ℕ) → k < spent → HasNone image (place_in base k)

-- the first free one of this many slots has this header
pub record IsWaitingIn (image : List ℕ) (base spent count : ℕ) (signed : Signed) : Type 0 where
  pub free : spent < count
  pub header : HasHeader image (place_in base spent) signed

-- the reported facts about this many slots of the area at a base are true
pub record IsSlots (image : List ℕ) (base count : ℕ) (slots : Slots) : Type 0 where
  pub orderly : IsOrderly image base slots.spent count
  pub last : MatchOption slots.last (AreBare image base slots.spent)
      (IsLastOf image base slots.spent)
  pub greatest : MatchOption slots.greatest (AreBare image base slots.spent)
      (IsGreatestOf image base slots.spent)
  pub waiting : MatchOption slots.waiting
      ((signed : Signed) → IsWaitingIn image base slots.spent count signed → ⊥)
      (IsWaitingIn image base slots.spent count)

-- Why the slot with a number does not continue the slots before it, which are orderly. Its last octets are tested
-- first.
abbrev pub IsWrongAt : List ℕ → ℕ → ℕ → ℕ → Strange → Type 0
IsWrongAt image base number key (Tail k slot) = (k ≡ key) × (slot ≡ number) × ((spent : ℕ) ×
    IsOrderly image base spent number) ×
    (IsZeroFrom (place_in base number + 106) (place_in base number + 128) image → ⊥)
IsWrongAt image base number key (Text k slot) = (k ≡ key) × (slot ≡ number) × ((spent : ℕ) ×
    IsOrderly image base spent number × (spent < number)) ×
    IsZeroFrom (place_in base number + 106) (place_in base number + 128) image ×
    (gate_at image (place_in base number) ≡ 0) ×
    (IsZeroFrom (place_in base number + 1) (place_in base number + 106) image → ⊥)
IsWrongAt image base number key (Gap k slot) = (k ≡ key) × (slot < number) ×
    IsOrderly image base slot number ×
    IsZeroFrom (place_in base number + 106) (place_in base number + 128) image ×
    (0 < gate_at image (place_in base number))
IsWrongAt image base number key (Block k) = ⊥
IsWrongAt image base number key (Link k) = ⊥
IsWrongAt image base number key Shut = ⊥

-- why this many slots are not orderly: the fault of the first wrong slot
abbrev pub IsWrong : List ℕ → ℕ → ℕ → ℕ → Strange → Type 0
IsWrong image base count key strange = (number : ℕ) × (number < count) ×
    IsWrongAt image base number key strange
