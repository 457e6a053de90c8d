-- The output of `desk`.
use Rattle.std.specs.Prelude.{◌≡◌, ℕ, ◌-◌, List}
use Rattle.std.specs.declared.option.Option.{Option}
use Rattle.std.specs.declared.result.Result.TheVariants.{Ok}
use Rattle.std.specs.Option.{ForSome}
use Rattle.lms_tree.specs.Signatures.{KeyOf, public_key}
use Rattle.desk_areas.specs.Layout.{base_of, slots_of, keys_left}
use Rattle.road_line.specs.DeskLine.{desk_line}
use Rattle.command_desks.specs.Opening.{EndsOpening, IsKeyOn}
use Rattle.command_files.specs.Endings.{Ending}
use Rattle.command_files.specs.declared.ended.Conclusion.TheVariants.{Done}

-- the public key of the last open area, the number of its remaining one-time keys, and the number of all its
-- one-time keys; the last one, which signs the next key, does not count
pub record IsDeskLine (image text : List ℕ) : Type 0 where
  pub key : KeyOf
  pub on_disk : IsKeyOn image key
  pub line : text ≡ desk_line (public_key key) (keys_left image (base_of image on_disk.area))
      (slots_of key.kind - 1)

-- the line is written from the disk's contents
abbrev pub TellsDesk : Option (List ℕ) → Ending
TellsDesk content (Ok Done) text = ForSome content (λ c. IsDeskLine c text)
TellsDesk content outcome text = ⊥

-- `desk` over the disk's contents; it opens the desk first
abbrev pub EndsDesk : Option (List ℕ) → Ending
EndsDesk content = EndsOpening content (TellsDesk content)
