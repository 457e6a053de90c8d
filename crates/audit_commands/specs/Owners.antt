-- The facts about keys and texts in one image of the owner's disk, and in all of its images.
use Rattle.std.specs.Prelude.{◌≡◌, ℕ, List}
use Rattle.road_io.specs.declared.disk.Disk.{Ghosts}
use Rattle.road_io.specs.Moments.{EachImage}
use Rattle.lms_tree.specs.Signatures.{public_key}
use Rattle.desk_areas.specs.Keys.{key_at}
use Rattle.desk_areas.specs.Layout.{SlotId, base_of, IsAreaOpen, IsSigned}
use Rattle.desk_look.specs.Looks.{Look}

-- the public key of a key whose block is in an open area of the disk
pub record IsOwnersKey (image key : List ℕ) : Type 0 where
  pub area : ℕ
  pub is_open : IsAreaOpen image area
  pub is : key ≡ public_key (key_at image (base_of image area))

-- an image has the keys of its open areas; a text is signed in one slot of it, or in none
abbrev pub look_in : List ℕ → Look
look_in image = record {
  Owns = IsOwnersKey image;
  Signed = λ text. (slot : SlotId) × IsSigned image slot text;
  Unsigned = λ text. (slot : SlotId) → ¬ IsSigned image slot text;
  Fails = λ e. ⊥;
}

-- the same for every image that a crash may leave, with one slot for all of these images
abbrev pub look_everywhere : {D : Type 0} → Ghosts D → D → Look
look_everywhere g disk = record {
  Owns = λ key. EachImage g disk (λ i. IsOwnersKey i key);
  Signed = λ text. (slot : SlotId) × EachImage g disk (λ i. IsSigned i slot text);
  Unsigned = λ text. EachImage g disk (λ i. (slot : SlotId) → ¬ IsSigned i slot text);
  Fails = λ e. ⊥;
}
