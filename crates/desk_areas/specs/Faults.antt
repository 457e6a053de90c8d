-- Why the areas of an image cannot be used.
use Rattle.std.specs.Prelude.{◌≡◌, ◌≢◌, ℕ, suc, ◌+◌, ◌<◌, List, length}
use Rattle.lms_tree.specs.Signatures.{public_key}
use Rattle.lms_tree.specs.Links.{IsLink, linked_key}
use Rattle.desk_areas.specs.Layout.{slots_at, place_in, base_of, gate_at, text_at, text_of, last_slot, HasLink, IsAreaOpen, IsOpen}
use Rattle.desk_areas.specs.Keys.{key_at}

-- The area at a base cannot be used: its kind is unknown, its slots are not all within the image, or a
-- spent slot other than its last holds a link text.
pub data IsBadArea (image : List ℕ) (base : ℕ) : Type 0 where
  UnknownKind : slots_at image base ≡ 0 → IsBadArea image base
  TooShort : length image < place_in base (slots_at image base) → IsBadArea image base
  StrayLink : (number : ℕ) → number + 1 < slots_at image base →
      0 < gate_at image (place_in base number) → IsLink (text_at image (place_in base number)) →
      IsBadArea image base

-- An area cannot be used for one of these reasons: the area itself cannot be used; an earlier area has the same I;
-- the link before it names another key; or it is the eighth, and its last slot is spent with a link text.
pub data IsFaulty (image : List ℕ) (area : ℕ) : Type 0 where
  Alone : IsBadArea image (base_of image area) → IsFaulty image area
  SameName : (other : ℕ) → other < area →
      (key_at image (base_of image other)).i ≡ (key_at image (base_of image area)).i →
      IsFaulty image area
  OtherKey : (before : ℕ) → area ≡ suc before →
      linked_key (text_of image (last_slot image before)) ≢ public_key
      (key_at image (base_of image area)) → IsFaulty image area
  NinthKey : area ≡ 7 → HasLink image area → IsFaulty image area

-- an open area cannot be used
pub record IsBadBlock (image : List ℕ) : Type 0 where
  pub area : ℕ
  pub is_open : IsAreaOpen image area
  pub fault : IsFaulty image area

-- the disk holds keys, all of which can be used
pub record IsUsable (image : List ℕ) : Type 0 where
  pub open_gate : IsOpen image
  pub good_block : ¬ IsBadBlock image
