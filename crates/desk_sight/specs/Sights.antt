-- The facts that are reported about a desk.
use Rattle.std.specs.Prelude.{◌≡◌, ◌⊎◌, ◌↔◌, ℕ, suc, ◌<◌, ◌≤◌, true, List, MatchOption}
use Rattle.desk_areas.specs.Layout.{SlotId, base_of, place_of, gate_at, gate_of, HasLink, IsCurrent}
use Rattle.desk_sight.specs.Texts.{HasHeader}
use Rattle.desk_sight.specs.Slots.{IsOrderly, IsWaitingIn}
use Rattle.desk_sight.specs.Areas.{early_at, IsWhole, IsPlainBlock, IsPlain, IsReached, IsShut, IsWaitingLink, IsFollowed}
use Rattle.desk_sight.specs.declared.slots.Signed.{Signed}
use Rattle.desk_sight.specs.declared.sight.Sight.{Sight}
use Rattle.desk_sight.specs.declared.sight.Told.{Told}

-- a spent slot that signs maps, in one of the first areas, has this header
pub record HasSigned (image : List ℕ) (areas : ℕ) (slot : SlotId) (signed : Signed) : Type 0 where
  pub area : slot.area < areas
  pub early : slot.number < early_at image slot.area
  pub spent : 0 < gate_of image slot
  pub header : HasHeader image (place_of image slot) signed

-- none of the first areas has signed a header
abbrev pub HasNoneSigned : List ℕ → ℕ → Type 0
HasNoneSigned image areas = (slot : SlotId) (signed : Signed) → HasSigned image areas slot signed → ⊥

-- a slot comes after another
abbrev pub IsBehind : SlotId → SlotId → Type 0
IsBehind slot other = (slot.area < other.area) ⊎ ((slot.area ≡ other.area) ×
    (slot.number < other.number))

-- this is the last header that the first areas have signed
pub record IsLastSigned (image : List ℕ) (areas : ℕ) (signed : Signed) : Type 0 where
  pub slot : SlotId
  pub has : HasSigned image areas slot signed
  pub later : (other : SlotId) (it : Signed) → IsBehind slot other →
      HasSigned image areas other it → ⊥

-- this is the greatest version of the headers that the first areas have signed
pub record IsGreatestSigned (image : List ℕ) (areas version : ℕ) : Type 0 where
  pub slot : SlotId
  pub signed : Signed
  pub has : HasSigned image areas slot signed
  pub is : signed.version ≡ version
  pub most : (other : SlotId) (it : Signed) → HasSigned image areas other it →
      it.version ≤ version

-- the reported facts about the headers that the first areas have signed are true
pub record IsTold (image : List ℕ) (areas : ℕ) (told : Told) : Type 0 where
  pub last : MatchOption told.last (HasNoneSigned image areas) (IsLastSigned image areas)
  pub greatest : MatchOption told.greatest (HasNoneSigned image areas)
      (IsGreatestSigned image areas)

-- the reported facts about the area with a number, which is reached and plain
pub record IsSightOf (image : List ℕ) (area : ℕ) (sight : Sight) : Type 0 where
  pub key : sight.key ≡ suc area
  pub whole : IsWhole image area
  pub block : IsPlainBlock image area
  pub size : sight.size ≡ early_at image area
  pub slots : IsOrderly image (base_of image area) sight.spent (early_at image area)
  pub waiting : MatchOption sight.waiting
      ((signed : Signed) →
      IsWaitingIn image (base_of image area) sight.spent (early_at image area) signed → ⊥)
      (IsWaitingIn image (base_of image area) sight.spent (early_at image area))
  pub told : IsTold image (suc area) (record { last = sight.last; greatest = sight.greatest })
  pub link : MatchOption sight.link ((key : List ℕ) → IsWaitingLink image area key → ⊥)
      (IsWaitingLink image area)
  pub followed : (sight.is_followed ≡ true) ↔ IsFollowed image area

-- the reported facts about a desk are true of its current area and of all areas before it
pub record IsSight (image : List ℕ) (sight : Sight) : Type 0 where
  pub area : ℕ
  pub current : IsCurrent image area
  pub last : HasLink image area → ⊥
  pub reached : IsReached image area
  pub here : IsSightOf image area sight

-- Nothing is reported in these cases: the first gate is closed and no used area is behind it; an open area that is
-- reached is not whole; or a ninth key is named.
pub data IsUntold (image : List ℕ) : Type 0 where
  NoKey : gate_at image 0 ≡ 0 → (IsShut image → ⊥) → IsUntold image
  NotWhole : (area : ℕ) → IsReached image area → (IsWhole image area → ⊥) → IsUntold image
  Ninth : IsReached image 7 → IsPlain image 7 → HasLink image 7 → IsUntold image
