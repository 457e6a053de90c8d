-- The value of the evidence of `reduce`: a collision, or a value that the desk never released.
use Rattle.std.specs.Prelude.{◌≡◌, ◌⊎◌, ◌+◌, ◌*◌, ◌<◌, ℕ, List, take, drop, slice_index, IfSome}
use Rattle.std.specs.declared.option.Option.{Option}
use Rattle.std.specs.declared.result.Result.{Result}
use Rattle.std.specs.declared.result.Result.TheVariants.{Ok}
use Rattle.std.specs.Io.KnownBytes.{Appends}
use Rattle.sha2.specs.Sha256.{sha256}
use Rattle.octet_text.specs.Collisions.{AreCollision}
use Rattle.road_io.specs.declared.disk.Disk.{Ghosts}
use Rattle.road_io.specs.Contents.{Folder}
use Rattle.road_io.specs.Moments.{EachImage}
use Rattle.lms_tree.specs.Signatures.{KeyOf, number_at, sealed}
use Rattle.lms_reduce.specs.Released.{claimed_digits, own_value}
use Rattle.desk_areas.specs.Layout.{SlotId, IsSigned}
use Rattle.road_line.specs.EvidenceLine.{collision_line}
use Rattle.command_files.specs.HexFiles.{hex_text_at}
use Rattle.command_files.specs.declared.fault.Fault.{Fault}
use Rattle.command_files.specs.declared.ended.Conclusion.{Conclusion}
use Rattle.command_files.specs.declared.ended.Conclusion.TheVariants.{Evidence}
use Rattle.audit_commands.specs.ReduceLine.{chain_line}
use Rattle.audit_commands.specs.Reducing.{IsKeyIn}

-- a slot of a key signs a text; the signature shows the key's own value of this chain after more than this many
-- steps
pub record ShowsLater (key : KeyOf) (slot : ℕ) (text : List ℕ) (at step : ℕ) : Type 0 where
  pub more : ℕ
  pub later : step < more
  pub shows : take 32 (drop (40 + 32 * at) (sealed key slot text)) ≡ own_value key slot at more

-- The line of a value of a chain that a signature of a text shows and the desk never released. The slot is the one
-- that the signature names, the step is the chain's digit of the text, and the value is at the chain's position in
-- the signature. In every image, the value belongs to the key of an open area, and each text that the slot has
-- signed shows a later step of the chain.
pub record IsUnreleasedLine {D : Type 0} (g : Ghosts D) (disk : D) (text sig line : List ℕ) :
    Type 0 where
  pub key : KeyOf
  pub slot : SlotId
  pub at : ℕ
  pub step : ℕ
  pub value : List ℕ
  pub line_is : line ≡ chain_line slot.number at step value
  pub chain : at < 34
  pub of_slot : slot.number ≡ number_at sig 0
  pub of_digit : step ≡ slice_index (claimed_digits key text sig) at
  pub shown : value ≡ take 32 (drop (40 + 32 * at) sig)
  pub of_key : EachImage g disk (λ i. IsKeyIn i slot.area key)
  pub own : value ≡ own_value key slot.number at step
  pub never : EachImage g disk (λ i. (signed : List ℕ) → IsSigned i slot signed →
      ShowsLater key slot.number signed at step)

-- The line of two different texts with the same SHA-256 digest. Both consist of octets, so the line holds them in
-- full.
pub record IsClashLine (line : List ℕ) : Type 0 where
  pub left : List ℕ
  pub right : List ℕ
  pub collide : AreCollision sha256 left right
  pub line_is : line ≡ collision_line left right

-- the support of the line of evidence about a signature of a text
abbrev pub RestsOnReduced : {D : Type 0} → Ghosts D → D → List ℕ → List ℕ →
    Result Conclusion Fault → List ℕ → Type 0
RestsOnReduced g disk text sig (Ok Evidence) line =
    IsClashLine line ⊎ IsUnreleasedLine g disk text sig line
RestsOnReduced g disk text sig outcome line = Unit {0}

-- the hex files with these names encode the text and the signature
pub record AreSpelled (folder : Folder) (text_name sig_name text sig : List ℕ) : Type 0 where
  pub text_is : hex_text_at folder text_name ≡ Ok text
  pub signature_is : hex_text_at folder sig_name ≡ Ok sig

-- a line written as evidence is such a line, for the text and the signature in the files with these names
abbrev pub WritesReduced : {D : Type 0} → Ghosts D → D → Option Folder → List ℕ → List ℕ →
    Option (List ℕ) → Option (List ℕ) → Result Conclusion Fault → Type 0
WritesReduced g disk files text_name sig_name old new (Ok Evidence) =
    (text : List ℕ) × (sig : List ℕ) ×
    IfSome files (λ folder. AreSpelled folder text_name sig_name text sig) ×
    (line : List ℕ) × Appends old new line × RestsOnReduced g disk text sig (Ok Evidence) line
WritesReduced g disk files text_name sig_name old new outcome = Unit {0}
