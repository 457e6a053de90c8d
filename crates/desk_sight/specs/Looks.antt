-- The result of a look at a desk, and what the look spends.
use Rattle.std.specs.Prelude.{◌≡◌, ◌≢◌, ◌⊎◌, ℕ, suc, ◌+◌, ◌-◌, ◌<◌, ◌≤◌, false, List, length, take, drop, IfSome, IsErr}
use Rattle.std.specs.Option.{ForSome}
use Rattle.std.specs.declared.option.Option.{Option}
use Rattle.std.specs.declared.option.Option.TheVariants.{None, Some}
use Rattle.std.specs.declared.result.Result.{Result}
use Rattle.std.specs.declared.result.Result.TheVariants.{Ok, Err}
use Rattle.road_io.specs.declared.disk.Disk.{Ghosts}
use Rattle.road_io.specs.Disk.{Narrows, Stays}
use Rattle.road_io.specs.Causes.{Rose}
use Rattle.road_io.specs.Moments.{EachImage, AtEachMoment}
use Rattle.octet_text.specs.Want.{no_memory}
use Rattle.lms_tree.specs.Signatures.{public_key}
use Rattle.lms_tree.specs.Links.{IsLink}
use Rattle.desk_areas.specs.Keys.{key_at}
use Rattle.desk_areas.specs.Layout.{slots_at, base_of, place_of, gate_at, gate_of, text_of, last_slot, AgreesOutside, IsCurrent}
use Rattle.key_desk.specs.Spending.{OpensTexted, HasSpent}
use Rattle.key_desk.specs.Stands.{KeepsStanding, SameKeys}
use Rattle.desk_sight.specs.Images.{seen_of}
use Rattle.desk_sight.specs.Areas.{IsShut, IsStrange, IsWhole, IsPlain, IsReached, IsWaitingLink, IsFollowed}
use Rattle.desk_sight.specs.Sights.{IsSight, IsUntold}
use Rattle.desk_sight.specs.declared.image.Unseen.{Unseen}
use Rattle.desk_sight.specs.declared.image.Unseen.TheVariants as unseen_of
use Rattle.desk_sight.specs.declared.looking.Use.{Use}
use Rattle.desk_sight.specs.declared.looking.Use.TheVariants.{Key, Publish, Succeed, Links}
use Rattle.desk_sight.specs.declared.looking.Unfit.{Unfit}
use Rattle.desk_sight.specs.declared.looking.Unfit.TheVariants as unfit
use Rattle.desk_sight.specs.declared.looking.Seen.{Seen}
use Rattle.desk_sight.specs.declared.looking.Spending.TheVariants.{Nothing, Header}
use Rattle.desk_sight.specs.declared.sight.Sight.{Sight}
use Rattle.desk_sight.specs.declared.strange.Strange.{Strange}
use Rattle.desk_sight.specs.declared.strange.Strange.TheVariants.{Gap, Text, Block, Tail, Link, Shut}

-- why nothing was read
abbrev pub unseen : Unseen → Unfit
unseen unseen_of.Failed = unfit.Disk
unseen (unseen_of.Memory none) = unfit.Memory none

-- ---- refusals

-- the first block has a known kind and belongs to a key other than this one; before `publish`, only the kind and
-- the identifier are compared
pub record IsOtherThan (differs : Type 0) (image : List ℕ) : Type 0 where
  pub long : 64 ≤ length image
  pub known : 0 < slots_at image 0
  pub other : differs

-- the first block has the kind and the identifier of a public key
abbrev pub HasNameOf : List ℕ → List ℕ → Type 0
HasNameOf image key = (take 4 (drop 1 image) ≡ take 4 key) ×
    (take 16 (drop 5 image) ≡ take 16 (drop 8 key))

abbrev pub IsOther : Use → Option (List ℕ) → List ℕ → Type 0
IsOther what None image = ⊥
IsOther Publish (Some key) image = IsOtherThan (HasNameOf image key → ⊥) image
IsOther what (Some key) image = IsOtherThan (public_key (key_at image 0) ≢ key) image

-- the area after the first areas, of which there are this many, is whole, and its block makes this key
pub record IsMade (image : List ℕ) (areas : ℕ) (key : List ℕ) : Type 0 where
  pub few : areas < 8
  pub whole : IsWhole image areas
  pub makes : public_key (key_at image (base_of image areas)) ≡ key

-- The link that waits in the last slot of the current key does not lead to the next key, which has signed. The
-- current area and those before it are as runs and crashes leave them.
pub record IsUnlinkedFrom (image : List ℕ) (areas : ℕ) : Type 0 where
  pub area : ℕ
  pub is : areas ≡ suc area
  pub current : IsCurrent image area
  pub reached : IsReached image area
  pub plain : IsPlain image area
  pub link : List ℕ
  pub waits : IsWaitingLink image area link
  pub other : IsMade image areas link → ⊥
  pub followed : IsFollowed image area

abbrev pub IsUnlinked : List ℕ → Strange → Type 0
IsUnlinked image (Link key) = IsUnlinkedFrom image key
IsUnlinked image strange = ⊥

-- contents of an image with which a command must not begin
abbrev pub IsRefused : Use → Option (List ℕ) → List ℕ → Strange → Type 0
IsRefused Key public image strange = (strange ≡ Shut) × IsShut image
IsRefused Succeed public image strange = (IsOther Succeed public image → ⊥) ×
    (IsStrange image strange ⊎ IsUnlinked image strange)
IsRefused what public image strange = (IsOther what public image → ⊥) × IsStrange image strange

-- this error is returned, unless the disk failed or memory ran out
abbrev pub AnswersRefusal : {X : Type 0} → Unfit → Result X Unfit → Type 0
AnswersRefusal why answer = (answer ≡ Err why) ⊎ ((answer ≡ Err unfit.Disk) ⊎
    (answer ≡ Err (unfit.Memory no_memory)))

-- ---- sights

-- why a command finds no key that can be recognised
abbrev pub IsUntoldTo : Use → Option (List ℕ) → List ℕ → Type 0
IsUntoldTo Key public image = IsShut image → ⊥
IsUntoldTo what public image = (IsOther what public image → ⊥) × IsUntold image

-- nothing waits that a command requires to be spent
abbrev pub NothingWaits : Use → List ℕ → Sight → Type 0
NothingWaits Publish image sight = sight.waiting ≡ None
NothingWaits Succeed image sight = IfSome sight.link (λ link. (IsMade image sight.key link → ⊥) ×
    (sight.is_followed ≡ false))
NothingWaits what image sight = Unit {0}

-- a sight of the image in which nothing waits, and whose first key does not differ from the named key
pub record IsFitFor (what : Use) (public : Option (List ℕ)) (image : List ℕ)
    (sight : Sight) : Type 0 where
  pub own : IsOther what public image → ⊥
  pub found : IsSight image sight
  pub spent : NothingWaits what image sight

-- ---- spending

-- an area ends here; its last slot is free and holds a link text
pub record HasClosedLink (end : ℕ) (image : List ℕ) : Type 0 where
  pub area : ℕ
  pub ends : base_of image (suc area) ≡ end
  pub known : 0 < slots_at image (base_of image area)
  pub within : end ≤ length image
  pub shut : gate_of image (last_slot image area) ≡ 0
  pub link : IsLink (text_of image (last_slot image area))

-- the gate before the area after the first areas, of which there are this many, was opened over the text in d
abbrev pub HasOpened : ℕ → List ℕ → List ℕ → Type 0
HasOpened areas d i = gate_at i (base_of (seen_of d) areas - 128) ≡ 1

-- only the gate over the link text in a free last slot changes
pub record OpensLink (d i : List ℕ) : Type 0 where
  pub end : ℕ
  pub closed : HasClosedLink end d
  pub alone : AgreesOutside (end - 128) (end - 128 + 1) d i

-- At each moment each image is unchanged, or only such a gate has changed. The signed pairs remain signed, and each
-- open area keeps its key.
pub record SpendsLink {D : Type 0} (g : Ghosts D) (old new : D) : Type 0 where
  pub moments : AtEachMoment g old new (λ d i. (i ≡ d) ⊎ OpensLink d i)
  pub stands : KeepsStanding g old new
  pub keys : AtEachMoment g old new SameKeys

-- what a look may spend before a command
abbrev pub MaySpend : Use → List ℕ → List ℕ → Type 0
MaySpend Publish d i = (i ≡ d) ⊎ OpensTexted d i
MaySpend Succeed d i = (i ≡ d) ⊎ OpensLink d i
MaySpend what d i = i ≡ d

-- At each moment each image is unchanged, or a slot was spent that the look may spend before the command. The
-- signed pairs remain signed, and each open area keeps its key.
pub record Spends {D : Type 0} (g : Ghosts D) (what : Use) (old new : D) : Type 0 where
  pub moments : AtEachMoment g old new (MaySpend what)
  pub stands : KeepsStanding g old new
  pub keys : AtEachMoment g old new SameKeys
