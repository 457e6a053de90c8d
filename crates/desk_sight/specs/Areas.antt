-- The areas of a desk that has a key, as runs and crashes leave them.
use Rattle.std.specs.Prelude.{◌≡◌, ◌≢◌, ◌⊎◌, ℕ, suc, ◌+◌, ◌-◌, ◌<◌, ◌≤◌, List, length, get_or}
use Rattle.desk_areas.specs.Layout.{slots_at, place_in, base_of, gate_at, gate_of, text_of, last_slot, IsAreaOpen, IsCurrent}
use Rattle.desk_areas.specs.Reading.{IsLinkTo}
use Rattle.desk_sight.specs.Texts.{IsZeroFrom}
use Rattle.desk_sight.specs.Slots.{IsOrderly, IsWrong}
use Rattle.desk_sight.specs.declared.strange.Strange.{Strange}
use Rattle.desk_sight.specs.declared.strange.Strange.TheVariants.{Gap, Text, Block, Tail, Link, Shut}

-- the number of slots of an area that sign maps: all but its last
abbrev pub early_at : List ℕ → ℕ → ℕ
early_at image area = slots_at image (base_of image area) - 1

-- the kind of an area is known, and all of the area lies within the image
pub record IsWhole (image : List ℕ) (area : ℕ) : Type 0 where
  pub known : 0 < slots_at image (base_of image area)
  pub within : place_in (base_of image area) (slots_at image (base_of image area)) ≤ length image

-- Those octets of a block that are always zero are zero: the octets after its secret, and the gate of a later key's
-- block.
pub record IsPlainBlock (image : List ℕ) (area : ℕ) : Type 0 where
  pub tail : IsZeroFrom (base_of image area + 53) (base_of image area + 64) image
  pub gate : (area ≡ 0) ⊎ (gate_at image (base_of image area) ≡ 0)

-- an area is as runs and crashes leave it
pub record IsPlain (image : List ℕ) (area : ℕ) : Type 0 where
  pub whole : IsWhole image area
  pub block : IsPlainBlock image area
  pub spent : ℕ
  pub slots : IsOrderly image (base_of image area) spent (early_at image area)

-- an area is open, and so are all areas before it
pub record IsReached (image : List ℕ) (area : ℕ) : Type 0 where
  pub is_open : IsAreaOpen image area
  pub plain : (before : ℕ) → before < area → IsPlain image before

-- why an area that is reached and whole is not plain: a fault in its block comes first, then the first fault in its
-- slots
abbrev pub IsWrongIn : List ℕ → ℕ → Strange → Type 0
IsWrongIn image area (Block key) = (key ≡ suc area) × (IsPlainBlock image area → ⊥)
IsWrongIn image area (Gap key slot) = IsPlainBlock image area ×
    IsWrong image (base_of image area) (early_at image area) (suc area) (Gap key slot)
IsWrongIn image area (Text key slot) = IsPlainBlock image area ×
    IsWrong image (base_of image area) (early_at image area) (suc area) (Text key slot)
IsWrongIn image area (Tail key slot) = IsPlainBlock image area ×
    IsWrong image (base_of image area) (early_at image area) (suc area) (Tail key slot)
IsWrongIn image area (Link key) = ⊥
IsWrongIn image area Shut = ⊥

-- the first area that is not plain, and the reason
pub record IsFirstWrong (image : List ℕ) (strange : Strange) : Type 0 where
  pub area : ℕ
  pub reached : IsReached image area
  pub whole : IsWhole image area
  pub wrong : IsWrongIn image area strange

-- a block is at a base: its kind is known, and the octets of its secret are not all equal
pub record HasBlock (image : List ℕ) (base : ℕ) : Type 0 where
  pub known : 0 < slots_at image base
  pub number : ℕ
  pub early : number < 48
  pub apart : get_or image (base + 5 + number) 0 ≢ get_or image (base + 5) 0

-- some octet of the image in this range is not zero
pub record HasOctet (image : List ℕ) (from to : ℕ) : Type 0 where
  pub place : ℕ
  pub low : from ≤ place
  pub high : place < to
  pub some : get_or image place 0 ≢ 0

-- The first gate is closed although a block is behind it, and a slot of its area holds something or a second block
-- follows. No run and no crash leaves this: the gate must have been open.
pub record IsShut (image : List ℕ) : Type 0 where
  pub gate : gate_at image 0 ≡ 0
  pub block : HasBlock image 0
  pub used : HasOctet image 64 (place_in 0 (slots_at image 0)) ⊎
      HasBlock image (place_in 0 (slots_at image 0))

-- The contents of an image that no run and no crash leaves: a closed first gate over a desk, or the first area that
-- is not plain. `Link` is found by the look, since it does not depend on the image alone.
pub data IsStrange (image : List ℕ) (strange : Strange) : Type 0 where
  Closed : strange ≡ Shut → IsShut image → IsStrange image strange
  Wrong : IsFirstWrong image strange → IsStrange image strange

-- the last slot of an area is free and holds the link to this key
pub record IsWaitingLink (image : List ℕ) (area : ℕ) (key : List ℕ) : Type 0 where
  pub free : gate_of image (last_slot image area) ≡ 0
  pub names : IsLinkTo (text_of image (last_slot image area)) key

-- another area follows, and its first slot is spent
pub record IsFollowed (image : List ℕ) (area : ℕ) : Type 0 where
  pub spent : 0 < gate_at image (place_in (base_of image (suc area)) 0)
