-- The desk over the disk's contents.
use Rattle.std.specs.Prelude.{◌≡◌, ◌⊎◌, true, ℕ, List, [], length, ◌++◌}
use Rattle.std.specs.declared.option.Option.{Option}
use Rattle.std.specs.declared.option.Option.TheVariants.{Some}
use Rattle.std.specs.declared.result.Result.TheVariants.{Err}
use Rattle.std.specs.Option.{ForSome}
use Rattle.road_io.specs.declared.disk.Disk.{Ghosts}
use Rattle.road_io.specs.Disk.{Narrows}
use Rattle.road_io.specs.Moments.{EachImage}
use Rattle.lms_tree.specs.Signatures.{KeyOf}
use Rattle.desk_areas.specs.Faults.{IsBadBlock, IsUsable}
use Rattle.desk_areas.specs.Layout.{IsOpen, IsCurrent, kind_at, secret_at, base_of, keys_left}
use Rattle.desk_areas.specs.declared.area.Count.TheVariants as counts
use Rattle.key_desk.specs.Desk.{count_at, free_slots, HasAreas, Fits}
use Rattle.key_desk.specs.declared.desk.Desk.{Desk}
use Rattle.command_files.specs.Endings.{Ending}
use Rattle.command_files.specs.declared.fault.Fault.TheVariants.{NoKey, BadBlock}

-- the desk opens, and the rest of the command follows; or it does not open, because the disk holds no key or a key
-- that cannot be used
abbrev pub EndsOpening : Option (List ℕ) → Ending → Ending
EndsOpening content Next outcome text =
    ((outcome ≡ Err NoKey) × ForSome content (λ c. ¬ IsOpen c) × (text ≡ []))
    ⊎ (((outcome ≡ Err BadBlock) × ForSome content (λ c. IsOpen c × IsBadBlock c) × (text ≡ [])) ⊎
    (ForSome content IsUsable × Next outcome text))

-- the key whose block is in the last open area of the disk
pub record IsKeyOn (image : List ℕ) (key : KeyOf) : Type 0 where
  pub area : ℕ
  pub current : IsCurrent image area
  pub kind : kind_at image (base_of image area) ≡ key.kind
  pub secret : secret_at image (base_of image area) ≡ key.i ++ key.seed
  pub named : length key.i ≡ 16

-- the disk's contents have this desk's open areas
abbrev pub HasBlocks : Option (List ℕ) → Desk → Type 0
HasBlocks content desk = ForSome content (λ c. IsOpen c × HasAreas desk c)

-- A desk opened over the keys on the disk. Each slot of its current area is free or spent. It fits the disk's
-- contents after the opening, which are those before it, and every image equals these contents.
pub record IsOpened {D : Type 0} (g : Ghosts D) (old new : D) (desk : Desk) : Type 0 where
  pub fits : Fits g desk new
  pub is_open : desk.is_open ≡ true
  pub counts : (s : ℕ) → (count_at desk s ≡ counts.Free) ⊎ (count_at desk s ≡ counts.Spent)
  pub left : ForSome (g.content new) (λ c. free_slots desk ≡ keys_left c desk.base)
  pub areas : HasBlocks (g.content new) desk
  pub usable : ForSome (g.content new) IsUsable
  pub content : Narrows (g.content old) (g.content new)
  pub one : EachImage g new (λ i. g.content old ≡ Some i)
