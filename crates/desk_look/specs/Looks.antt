-- What a desk tells about keys and texts.
use Rattle.std.specs.Prelude.{◌≡◌, ◌≤◌, Bool, true, false, List, ℕ, length, Result, Ok, Err}
use Rattle.lms_tree.specs.Signatures.{public_key}
use Rattle.road_io.specs.declared.disk.Disk.{Ghosts}
use Rattle.road_io.specs.Causes.{Rose}
use Rattle.road_io.specs.Moments.{EachImage}
use Rattle.key_desk.specs.declared.desk.Desk.{Desk}
use Rattle.key_desk.specs.declared.desk.DeskError.{DeskError}
use Rattle.key_desk.specs.declared.desk.DeskError.TheVariants.{KeysUsedUp, DiskFault, Closed}
use Rattle.key_desk.specs.Desk.{key_of}
use Rattle.desk_areas.specs.Layout.{SlotId, IsSigned}

-- what may be known: of a key, that it belongs to the owner; of a text, that it is signed, or that it is not, or
-- why this is unknown
pub record Look : Type 1 where
  pub Owns : List ℕ → Type 0
  pub Signed : List ℕ → Type 0
  pub Unsigned : List ℕ → Type 0
  pub Fails : DeskError → Type 0

-- the public key of an area of the desk, from the area with this number on
pub record IsKeyFrom (desk : Desk) (first : ℕ) (key : List ℕ) : Type 0 where
  pub area : ℕ
  pub from : first ≤ area
  pub upto : area ≤ length desk.earlier
  pub is : key ≡ public_key (key_of desk area)

-- why a look at the slots fails: an open desk met a disk error, or the desk is closed
abbrev pub LookFails : {D : Type 0} → Ghosts D → Desk → D → D → DeskError → Type 0
LookFails g desk old new KeysUsedUp = ⊥
LookFails g desk old new DiskFault = (desk.is_open ≡ true) × Rose (g.faults old) (g.faults new)
LookFails g desk old new Closed = desk.is_open ≡ false

-- the look of a desk at its disk: its keys are those of its areas; a text is signed in one slot of every image, or
-- in no slot of any image
abbrev pub look_at : {D : Type 0} → Ghosts D → Desk → D → D → Look
look_at g desk old new = record {
  Owns = IsKeyFrom desk 0;
  Signed = λ text. (desk.is_open ≡ true) ×
      ((slot : SlotId) × EachImage g new (λ i. IsSigned i slot text));
  Unsigned = λ text. (desk.is_open ≡ true) ×
      EachImage g new (λ i. (slot : SlotId) → ¬ IsSigned i slot text);
  Fails = LookFails g desk old new;
}

-- the result of searching for a text
abbrev pub Says : Look → List ℕ → Result Bool DeskError → Type 0
Says look text (Ok true) = look.Signed text
Says look text (Ok false) = look.Unsigned text
Says look text (Err e) = look.Fails e
