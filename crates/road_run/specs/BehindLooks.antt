-- The signatures of a run after a look that found nothing strange and spent nothing. Source: RFC 8554, section 9.2:
-- a one-time key whose state may be lost must not sign another text.
use Rattle.std.specs.Prelude.{◌≡◌, ◌⊎◌, ℕ, suc, ◌<◌, ◌≤◌, List, IfSome}
use Rattle.std.specs.declared.option.Option.{Option}
use Rattle.std.specs.declared.option.Option.TheVariants.{None, Some}
use Rattle.road_io.specs.declared.disk.Disk.{Ghosts}
use Rattle.road_io.specs.Moments.{Image}
use Rattle.desk_areas.specs.Layout.{SlotId, place_of, text_of, last_slot, IsSigned}
use Rattle.desk_areas.specs.Reading.{IsLinkTo}
use Rattle.desk_sight.specs.Areas.{early_at}
use Rattle.desk_sight.specs.Images.{seen_of}
use Rattle.desk_sight.specs.Looks.{IsFitFor, IsMade}
use Rattle.desk_sight.specs.Texts.{HasHeader}
use Rattle.desk_sight.specs.declared.looking.Use.{Use}
use Rattle.desk_sight.specs.declared.looking.Use.TheVariants as uses
use Rattle.desk_sight.specs.declared.sight.Sight.{Sight}
use Rattle.desk_sight.specs.declared.slots.Signed.{Signed}
use Rattle.road_command.specs.Requests.{Request, Key, Succeed, Links, Publish}

-- how a command uses the owner's keys, as the preceding look is told, if the command uses them
abbrev pub use_of : Option Request → Option Use
use_of (Some (Key secret kind)) = Some uses.Key
use_of (Some (Publish roads settings)) = Some uses.Publish
use_of (Some (Succeed secret kind)) = Some uses.Succeed
use_of (Some Links) = Some uses.Links
use_of asked = None

-- no slot that signs maps holds a whole header, and no last slot holds the link to the next key
pub record IsUnwritten (image : List ℕ) (slot : SlotId) : Type 0 where
  pub header : slot.number < early_at image slot.area → (signed : Signed) →
      HasHeader image (place_of image slot) signed → ⊥
  pub link : slot ≡ last_slot image slot.area → (key : List ℕ) →
      IsLinkTo (text_of image slot) key → IsMade image (suc slot.area) key → ⊥

-- At each moment of a call, each pair that an image has signed is a pair of an image at the entry of the call. If
-- the look finds that image fit for the command and has nothing to spend first, the pair is already signed in it,
-- or its slot holds no such text there.
abbrev pub SignsOverNone : {D : Type 0} → Ghosts D → D → D → Option Request →
    Option (List ℕ) → Type 0
SignsOverNone g old new asked public = (k : ℕ) (i : List ℕ) → g.clock old ≤ k → k ≤ g.clock new →
    g.image_at new k i → (slot : SlotId) (text : List ℕ) → IsSigned i slot text →
    (d : List ℕ) × Image g old d × ((sight : Sight) →
    IfSome (use_of asked) (λ what. IsFitFor what public (seen_of d) sight) →
    IsSigned d slot text ⊎ IsUnwritten (seen_of d) slot)
