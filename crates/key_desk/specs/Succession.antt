-- The next key of a desk.
use Rattle.std.specs.Prelude.{◌≡◌, ◌≢◌, ◌⊎◌, ℕ, suc, ◌+◌, ◌-◌, ◌<◌, ◌≤◌, true, List, [], ◌∷◌, ◌++◌, length, replicate, slice_set}
use Rattle.std.specs.declared.option.Option.{Option}
use Rattle.std.specs.declared.result.Result.{Result}
use Rattle.std.specs.declared.result.Result.TheVariants.{Err}
use Rattle.std.specs.Option.{ForSome}
use Rattle.lms_tree.specs.Signatures.{KeyOf}
use Rattle.key_desk.specs.declared.desk.Desk.{Desk}
use Rattle.key_desk.specs.declared.succeed.SucceedError.{SucceedError}
use Rattle.key_desk.specs.declared.succeed.SucceedError.TheVariants.{NoKey, BadBlock, TooManyKeys, NoSuccession, SameSecret, DiskFault, Memory}
use Rattle.desk_areas.specs.declared.errors.StartError.{StartError}
use Rattle.desk_areas.specs.declared.errors.StartError.TheVariants as start
use Rattle.desk_areas.specs.declared.area.Count.TheVariants
use Rattle.desk_areas.specs.Faults.{IsBadBlock, IsUsable}
use Rattle.desk_areas.specs.Keys.{key_at}
use Rattle.desk_areas.specs.Layout.{slots_of, slots_at, place_in, base_of, place_of, gate_at, gate_of, last_slot, IsAreaOpen, IsOpen, IsCurrent, AgreesOutside, SameFront, SignsAtMost}
use Rattle.desk_areas.specs.Blank.{HasKey, IsBlankArea}
use Rattle.key_desk.specs.Desk.{count_at, key_of}
use Rattle.octet_text.specs.Want.{no_memory}

-- the number of the slot that signs the next key
abbrev pub last_number : Desk → ℕ
last_number desk = slots_of desk.key.kind - 1

-- the desk after its last slot has signed a key: the area of that key is the current one, and all its slots are
-- free
abbrev pub next_desk : Desk → KeyOf → Desk
next_desk desk key = record {
  earlier = desk.earlier ++ record {
    key = desk.key;
    counts = slice_set desk.counts (last_number desk) TheVariants.Spent;
  } ∷ [];
  base = place_in desk.base (slots_of desk.key.kind);
  key = key;
  counts = replicate (slots_of key.kind) TheVariants.Free;
  is_open = true;
}

-- the area of the key can be added: there are fewer than eight areas, the last slot is not spent, and no area has
-- the same I
pub record CanSucceed (desk : Desk) (key : KeyOf) : Type 0 where
  pub opened : desk.is_open ≡ true
  pub few : length desk.earlier < 7
  pub free : count_at desk (last_number desk) ≢ TheVariants.Spent
  pub known : 0 < slots_of key.kind
  pub named : length key.i ≡ 16
  pub distinct : (area : ℕ) → area ≤ length desk.earlier → (key_of desk area).i ≢ key.i

-- the area at a base is that of this key; all its octets, including its gate, are zero, except for the key's kind
-- and secret, so no slot is spent
pub record IsUnspent (key : KeyOf) (base : ℕ) (image : List ℕ) : Type 0 where
  pub blank : IsBlankArea key base image
  pub gate : gate_at image base ≡ 0

-- the blocks of the desk's keys are in the image
abbrev pub HasKeys : Desk → List ℕ → Type 0
HasKeys desk image = (area : ℕ) → area ≤ length desk.earlier →
    HasKey (key_of desk area) (base_of image area) image

-- the image is unchanged, or the last slot of its current area has signed this text and no other text was signed
pub record SignsLink (text d i : List ℕ) : Type 0 where
  pub area : ℕ
  pub current : IsCurrent d area
  pub signs : SignsAtMost (last_slot d area) text d i

-- The changes that the next key's area and the link to it make in an image. The area begins at an end, and the slot
-- of the link is at a place before it. First the octets after the end are written, and then only the length octet,
-- the link text and the gate of that slot. The gate is unchanged, or the area is unspent.
pub record RaisesAt (key : KeyOf) (end place : ℕ) (d i : List ℕ) : Type 0 where
  pub behind : List ℕ
  pub front : SameFront end d behind
  pub alone : AgreesOutside place (place + 62) behind i
  pub gate : (gate_at i place ≡ gate_at d place) ⊎ IsUnspent key end i

-- the same, for the last slot of the current area, which is free, and the area after it
pub record RaisesNext (key : KeyOf) (d i : List ℕ) : Type 0 where
  pub area : ℕ
  pub current : IsCurrent d area
  pub known : 0 < slots_at d (base_of d area)
  pub free : gate_of d (last_slot d area) ≡ 0
  pub raises : RaisesAt key (base_of d (suc area)) (place_of d (last_slot d area)) d i

-- ---- refusals

-- the last slot of the image's current area is spent
abbrev pub IsLastSpent : List ℕ → Type 0
IsLastSpent image = (area : ℕ) × IsCurrent image area × (0 < gate_of image (last_slot image area))

-- an open area of the image has a key with this name
abbrev pub HasName : List ℕ → List ℕ → Type 0
HasName image name = (area : ℕ) × IsAreaOpen image area ×
    ((key_at image (base_of image area)).i ≡ name)

-- why a key with this name cannot follow the keys of an image: the first reason that applies, in this order
abbrev pub Refuses : List ℕ → List ℕ → SucceedError → Type 0
Refuses image name NoKey = IsOpen image → ⊥
Refuses image name BadBlock = IsOpen image × IsBadBlock image
Refuses image name TooManyKeys = IsUsable image × IsCurrent image 7
Refuses image name NoSuccession = IsUsable image × (IsCurrent image 7 → ⊥) × IsLastSpent image
Refuses image name SameSecret = IsUsable image × (IsCurrent image 7 → ⊥) × (IsLastSpent image → ⊥) ×
    HasName image name
Refuses image name DiskFault = ⊥
Refuses image name (Memory _) = ⊥

-- A refusal is the one that the contents of the disk require. This does not cover a disk error or out of memory.
abbrev pub IsCalledFor : Option (List ℕ) → List ℕ → SucceedError → Type 0
IsCalledFor content name DiskFault = Unit {0}
IsCalledFor content name (Memory _) = Unit {0}
IsCalledFor content name e = ForSome content (λ c. Refuses c name e)

-- the refusal that the contents of the disk require is returned, unless the disk failed or memory ran out
abbrev pub AnswersRefusal : {X : Type 0} → List ℕ → List ℕ → Result X SucceedError → Type 0
AnswersRefusal image name answer = (e : SucceedError) → Refuses image name e → (answer ≡ Err e) ⊎
    ((answer ≡ Err DiskFault) ⊎ (answer ≡ Err (Memory no_memory)))

-- a desk has a key with this name
abbrev pub HasKeyNamed : Desk → List ℕ → Type 0
HasKeyNamed desk name = (area : ℕ) × (area ≤ length desk.earlier) × ((key_of desk area).i ≡ name)

-- why a key with this name cannot follow a desk's keys: the first reason that applies, in this order
abbrev pub DeskRefuses : Desk → List ℕ → SucceedError → Type 0
DeskRefuses desk name TooManyKeys = length desk.earlier ≡ 7
DeskRefuses desk name NoSuccession = (length desk.earlier < 7) ×
    (count_at desk (last_number desk) ≡ TheVariants.Spent)
DeskRefuses desk name SameSecret = (length desk.earlier < 7) ×
    (count_at desk (last_number desk) ≢ TheVariants.Spent) × HasKeyNamed desk name
DeskRefuses desk name e = ⊥

-- a key with this name can follow
pub record CanFollow (desk : Desk) (name : List ℕ) : Type 0 where
  pub few : length desk.earlier < 7
  pub free : count_at desk (last_number desk) ≢ TheVariants.Spent
  pub other : HasKeyNamed desk name → ⊥

abbrev pub IsDeskCalledFor : Desk → List ℕ → SucceedError → Type 0
IsDeskCalledFor desk name DiskFault = Unit {0}
IsDeskCalledFor desk name (Memory _) = Unit {0}
IsDeskCalledFor desk name e = DeskRefuses desk name e

-- the desk's reason to refuse is returned
abbrev pub AnswersDeskRefusal : {X : Type 0} → Desk → List ℕ → Result X SucceedError → Type 0
AnswersDeskRefusal desk name answer = (e : SucceedError) → DeskRefuses desk name e → answer ≡ Err e

-- why no key can follow if the desk cannot be opened
abbrev pub started : StartError → SucceedError
started start.NoKey = NoKey
started start.BadBlock = BadBlock
started start.DiskFault = DiskFault
started start.Held = Memory no_memory
started (start.Memory none) = Memory none
