-- The output of `reduce`: its steps in order, each followed by the rest of the command.
use Rattle.std.specs.Prelude.{◌≡◌, ◌≢◌, ◌⊎◌, ◌<◌, ◌≤◌, ℕ, List, [], length}
use Rattle.std.specs.declared.option.Option.{Option}
use Rattle.std.specs.declared.option.Option.TheVariants.{None, Some}
use Rattle.std.specs.declared.result.Result.TheVariants.{Ok, Err}
use Rattle.std.specs.Option.{ForSome}
use Rattle.road_io.specs.declared.disk.Disk.{Ghosts}
use Rattle.road_io.specs.Moments.{EachImage}
use Rattle.road_io.specs.Contents.{Folder}
use Rattle.lms_tree.specs.Signatures.{KeyOf, number_at, public_key, verified}
use Rattle.lms_tree.specs.declared.seals.SealError.{SealError}
use Rattle.lms_reduce.specs.Reduction.{Reduces}
use Rattle.lms_reduce.specs.declared.reduced.Reduced.{Reduced}
use Rattle.desk_areas.specs.Layout.{SlotId, slots_of, base_of, IsAreaOpen, IsSigned}
use Rattle.desk_areas.specs.Keys.{key_at}
use Rattle.key_desk.specs.declared.desk.Desk.{Desk}
use Rattle.key_desk.specs.Desk.{key_of}
use Rattle.route_client.specs.declared.errors.CheckError.TheVariants.{BadSignature}
use Rattle.road_line.specs.VerdictLine.{refused_line}
use Rattle.command_files.specs.HexFiles.{public_key_at, hex_text_at}
use Rattle.command_files.specs.Endings.{Ending, EndsReading}
use Rattle.command_files.specs.declared.fault.Fault.TheVariants.{OtherKey}
use Rattle.command_files.specs.declared.ended.Conclusion.TheVariants.{Done, Refused, Evidence}
use Rattle.command_desks.specs.Opening.{EndsOpening}
use Rattle.audit_commands.specs.ReduceLine.{reduced_line, signed_line}

-- ---- the disk's contents

-- the key of an open area
pub record IsKeyIn (image : List ℕ) (area : ℕ) (key : KeyOf) : Type 0 where
  pub is_open : IsAreaOpen image area
  pub is : key ≡ key_at image (base_of image area)

-- the slot of an area that a signature names in its first four octets
abbrev pub slot_named : ℕ → List ℕ → SlotId
slot_named area sig = record { area = area; number = number_at sig 0 }

-- the slot has signed this text, or no text
abbrev pub HasSigned : List ℕ → SlotId → Option (List ℕ) → Type 0
HasSigned image slot (Some text) = IsSigned image slot text
HasSigned image slot None = (text : List ℕ) → ¬ IsSigned image slot text

-- the text signed by the slot that a signature names; a signature that is too short for a number names no slot
pub record HasSpent (image : List ℕ) (area : ℕ) (sig : List ℕ) (spent : Option (List ℕ)) :
    Type 0 where
  pub named : 4 ≤ length sig → HasSigned image (slot_named area sig) spent
  pub unnamed : length sig < 4 → spent ≡ None

-- the number of a slot of a desk's area is the one that the signature names
pub record IsNamed (desk : Desk) (area : ℕ) (sig : List ℕ) (slot : ℕ) : Type 0 where
  pub number : slot ≡ number_at sig 0
  pub long : 4 ≤ length sig
  pub known : slot < slots_of (key_of desk area).kind

-- ---- the steps

-- The line for a signature of a text, under a key whose slot has signed this text, or no text: the reason why the
-- signature is invalid, or that the slot has signed the same text, or evidence.
abbrev pub TellsReduced : KeyOf → Option (List ℕ) → List ℕ → List ℕ → Ending
TellsReduced key spent text sig outcome line =
    ((why : SealError) × (verified (public_key key) text sig ≡ Err why) × (outcome ≡ Ok Refused) ×
    (line ≡ refused_line (BadSignature why)))
    ⊎ ((verified (public_key key) text sig ≡ Ok tt) ×
    (((spent ≡ Some text) × (outcome ≡ Ok Done) × (line ≡ signed_line (number_at sig 0)))
    ⊎ ((spent ≢ Some text) × (reduced : Reduced) × Reduces key spent text sig reduced ×
    (outcome ≡ Ok Evidence) × (line ≡ reduced_line reduced))))

-- the same, if in every image the slot has signed this text, or no text
abbrev pub TellsSlot : {D : Type 0} → Ghosts D → D → ℕ → KeyOf → List ℕ → List ℕ → Ending
TellsSlot g disk area key text sig outcome line =
    (spent : Option (List ℕ)) × EachImage g disk (λ i. HasSpent i area sig spent) ×
    TellsReduced key spent text sig outcome line

-- the public key does not belong to the disk; or it is that of an open area, and the line reduces the signature by
-- this key and by the text that the key's slot on the disk has signed
abbrev pub EndsReducing : Option (List ℕ) → List ℕ → List ℕ → List ℕ → Ending
EndsReducing content public text sig outcome line =
    ((outcome ≡ Err OtherKey) × ForSome content (λ c. (area : ℕ) (key : KeyOf) →
    IsKeyIn c area key → public ≢ public_key key) × (line ≡ []))
    ⊎ ((area : ℕ) × (key : KeyOf) × (spent : Option (List ℕ)) × (public ≡ public_key key) ×
    ForSome content (λ c. IsKeyIn c area key × HasSpent c area sig spent) ×
    TellsReduced key spent text sig outcome line)

-- `reduce` over a public key, a text and a signature; it opens the desk first
abbrev pub EndsReduce : Option (List ℕ) → List ℕ → List ℕ → List ℕ → Ending
EndsReduce content public text sig = EndsOpening content (EndsReducing content public text sig)

-- the same over the hex files with these names
abbrev pub ends_reduce : Option (List ℕ) → List ℕ → List ℕ → List ℕ → Folder → Ending
ends_reduce content key text signature folder =
    EndsReading (public_key_at folder key)
    (λ public. EndsReading (hex_text_at folder text)
    (λ octets. EndsReading (hex_text_at folder signature)
    (λ sig. EndsReduce content public octets sig)))
