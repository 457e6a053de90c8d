-- The definitions of evidence, evaluated for some results. A weakened definition fails here.
use Rattle.std.proofs.Common.{◌≡◌, ◌⊎◌, ◌+◌, ◌*◌, ◌<◌, ℕ, List, take, drop}
use Rattle.std.specs.declared.result.Result.TheVariants.{Ok}
use Rattle.sha2.specs.Sha256.{sha256}
use Rattle.road_io.specs.declared.disk.Disk.{Ghosts}
use Rattle.road_io.specs.Moments.{Image}
use Rattle.lms_tree.specs.Signatures.{sealed}
use Rattle.lms_reduce.specs.Released.{own_value}
use Rattle.desk_areas.specs.Layout.{IsSigned}
use Rattle.road_line.specs.EvidenceLine.{collision_line}
use Rattle.command_files.specs.declared.ended.Conclusion.TheVariants.{Evidence}
use Rattle.audit_commands.specs.ReduceLine.{chain_line}
use Rattle.audit_commands.specs.Unreleased.{ShowsLater, IsUnreleasedLine, IsClashLine, RestsOnReduced}

-- two equal texts are not a collision
one_text_is_no_clash : (line : List ℕ) (c : IsClashLine line) → c.left ≡ c.right → ⊥
one_text_is_no_clash line c same = c.collide.differ same

one_digest : (line : List ℕ) (c : IsClashLine line) → sha256 c.left ≡ sha256 c.right
one_digest line c = c.collide.one_digest

clash_line : (line : List ℕ) (c : IsClashLine line) → line ≡ collision_line c.left c.right
clash_line line c = c.line_is

module _ {D : Type 0} (g : Ghosts D) (disk : D) (text sig line : List ℕ) (u : IsUnreleasedLine g disk text sig line) where
  -- the value is the key's own, at the chain and the step that the line names
  own : u.value ≡ own_value u.key u.slot.number u.at u.step
  own = u.own

  named : line ≡ chain_line u.slot.number u.at u.step u.value
  named = u.line_is

  -- a text that the slot has signed shows the chain's value after more steps, and not at this step or an earlier
  -- one
  signed_is_later : (i text : List ℕ) → Image g disk i → IsSigned i u.slot text → ShowsLater u.key u.slot.number text u.at u.step
  signed_is_later i text now signed = u.never i now text signed

  more_steps : (i text : List ℕ) (now : Image g disk i) (signed : IsSigned i u.slot text) → (more : ℕ) × (u.step < more) × (take 32 (drop (40 + 32 * u.at) (sealed u.key u.slot.number text)) ≡ own_value u.key u.slot.number u.at more)
  more_steps i text now signed = let shows = signed_is_later i text now signed in (shows.more, shows.later, shows.shows)

-- an end with evidence has such a line as its support
evidence_is_told : {D : Type 0} (g : Ghosts D) (disk : D) (text sig line : List ℕ) → RestsOnReduced g disk text sig (Ok Evidence) line → IsClashLine line ⊎ IsUnreleasedLine g disk text sig line
evidence_is_told g disk text sig line h = h
