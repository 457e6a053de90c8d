-- The area of a new key.
use Rattle.std.specs.Prelude.{◌≡◌, ◌⊎◌, ℕ, ◌+◌, ◌<◌, ◌≤◌, List, ◌++◌, length, get_or}
use Rattle.lms_tree.specs.Signatures.{KeyOf}
use Rattle.desk_areas.specs.Layout.{slots_of, place_in, gate_at, kind_at, secret_at, IsOpen}

-- the image has this key's block at a base, and all its slots
pub record HasKey (key : KeyOf) (base : ℕ) (image : List ℕ) : Type 0 where
  pub kind : kind_at image base ≡ key.kind
  pub secret : secret_at image base ≡ key.i ++ key.seed
  pub within : place_in base (slots_of key.kind) ≤ length image

-- every octet of the image in this range exists and is zero
pub record IsZero (from size : ℕ) (image : List ℕ) : Type 0 where
  pub long : from + size ≤ length image
  pub zero : (k : ℕ) → from ≤ k → k < from + size → get_or image k 0 ≡ 0

-- the image has this key's whole block at a base, and zeros from the end of the block's 53 octets to the end of the
-- area, so no slot is spent
pub record IsBlankArea (key : KeyOf) (base : ℕ) (image : List ℕ) : Type 0 where
  pub block : HasKey key base image
  pub zero : (k : ℕ) → base + 53 ≤ k → k < place_in base (slots_of key.kind) → get_or image k 0 ≡ 0

-- the image has this key's open block in its first area, which is blank
pub record IsBlank (key : KeyOf) (image : List ℕ) : Type 0 where
  pub key_open : 0 < gate_at image 0
  pub area : IsBlankArea key 0 image

-- an image that a crash may leave while a first key is made
abbrev pub IsFresh : KeyOf → List ℕ → Type 0
IsFresh key image = (IsOpen image → ⊥) ⊎ IsBlank key image
