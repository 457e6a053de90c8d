-- The effect of a look before a command on the desk, what the look leaves of a desk that it refuses, and the desks
-- with which a run begins.
use Rattle.std.specs.Prelude.{◌≡◌, ◌≢◌, ◌⊎◌, ℕ, List, MatchOption, IfSome}
use Rattle.std.specs.declared.option.Option.{Option}
use Rattle.std.specs.declared.option.Option.TheVariants.{None, Some}
use Rattle.road_io.specs.declared.disk.Disk.{Ghosts}
use Rattle.road_io.specs.Moments.{EachImage}
use Rattle.key_desk.specs.Spending.{HasSpent}
use Rattle.desk_sight.specs.Looks.{HasOpened, IsFitFor, IsOther, IsRefused, IsUntoldTo, NothingWaits, Spends}
use Rattle.desk_sight.specs.Sights.{IsSight, IsUntold}
use Rattle.desk_sight.specs.declared.sight.Sight.{Sight}
use Rattle.desk_sight.specs.declared.strange.Strange.{Strange as StrangeThing}
use Rattle.desk_sight.specs.declared.looking.Use.{Use}
use Rattle.desk_sight.specs.declared.looking.Use.TheVariants as keys
use Rattle.desk_sight.specs.declared.looking.Spending.{Spending}
use Rattle.desk_sight.specs.declared.looking.Spending.TheVariants.{Nothing, Header, Link}
use Rattle.desk_sight.specs.declared.looking.Unfit.{Unfit}
use Rattle.desk_sight.specs.declared.looking.Unfit.TheVariants.{Strange, OtherKey}
use Rattle.desk_fit.specs.Signers.{AwaitsSigner}

-- a look spends what a use of the keys allows; before a command that uses no keys, the desk is unchanged
abbrev pub Looks : {D : Type 0} → Ghosts D → Option Use → D → D → Type 0
Looks g None old new = new ≡ old
Looks g (Some what) old new = Spends g what old new

-- ---- refused desks

-- if a desk is strange or has another key, no image of it changes
abbrev pub LeavesAsItWas : Unfit → Type 0 → Type 0
LeavesAsItWas (Strange strange) Stayed = Stayed
LeavesAsItWas OtherKey Stayed = Stayed
LeavesAsItWas why Stayed = Unit {0}

-- why the desk is refused: it holds something that no run and no crash leaves, or its first block belongs
-- to a key other than the known one
abbrev pub IsWhy : Option Use → Option (List ℕ) → Unfit → List ℕ → Type 0
IsWhy (Some what) first (Strange strange) image = IsRefused what first image strange
IsWhy (Some what) first OtherKey image = IsOther what first image
IsWhy what first why image = Unit {0}

-- no command begins with a refused desk
pub record IsUnrefused (what : Use) (first : Option (List ℕ)) (image : List ℕ) : Type 0 where
  pub plain : (strange : StrangeThing) → IsRefused what first image strange → ⊥
  pub own : what ≢ keys.Key → IsOther what first image → ⊥

abbrev pub BeginsUnrefused : Option Use → Option (List ℕ) → List ℕ → Type 0
BeginsUnrefused None first image = Unit {0}
BeginsUnrefused (Some what) first image = IsUnrefused what first image

-- ---- spent slots

-- what is reported as spent is spent in each image: a slot, or the gate before the area after a key
abbrev pub IsSpentSo : {D : Type 0} → Ghosts D → Spending → D → D → Type 0
IsSpentSo g Nothing old new = Unit {0}
IsSpentSo g (Header slot version) old new =
    EachImage g new (λ i. (c : List ℕ) × (g.content old ≡ Some c) × HasSpent slot c i)
IsSpentSo g (Link key) old new =
    EachImage g new (λ i. (c : List ℕ) × (g.content old ≡ Some c) × HasOpened key c i)

-- Nothing waits that the command requires to be spent: no key can be recognised; or a key can be recognised, and
-- nothing waits in its area.
abbrev pub IsQuiet : Use → Option (List ℕ) → List ℕ → Type 0
IsQuiet what first image = IsUntoldTo what first image ⊎ ((sight : Sight) ×
    IsFitFor what first image sight)

-- if nothing was spent, nothing waits
abbrev pub BeginsQuiet : Option Use → Option (List ℕ) → Spending → List ℕ → Type 0
BeginsQuiet (Some what) first Nothing image = IsQuiet what first image
BeginsQuiet what first spending image = Unit {0}

-- ---- desks with which a run begins

-- the report about a desk is true: its areas are as runs and crashes leave them, or no key can be recognised
abbrev pub IsTold : List ℕ → Option Sight → Type 0
IsTold image sight = MatchOption sight (IsUntold image) (IsSight image)

-- A map is signed with such a desk: its current key is expected, if the first one is known, and no whole
-- header waits in its first free slot.
pub record IsFitForMap (first : Option (List ℕ)) (image : List ℕ) (sight : Option Sight)
    (signer : Option (List ℕ)) : Type 0 where
  pub told : IsTold image sight
  pub awaits : AwaitsSigner first image signer
  pub unwaited : IfSome sight (λ sight. sight.waiting ≡ None)

-- A next key is signed with such a desk: the last slot of its current area, if it is free, holds no link to the
-- next key, and no link at all if the next key has signed.
pub record IsFitForNext (image : List ℕ) (sight : Option Sight) (signer : Option (List ℕ)) : Type 0 where
  pub told : IsTold image sight
  pub unlinked : IfSome sight (NothingWaits keys.Succeed image)
  pub unsigned : signer ≡ None

-- a command that uses the keys in this way begins with such a desk
abbrev pub IsFit : Option Use → Option (List ℕ) → List ℕ → Option Sight → Option (List ℕ) → Type 0
IsFit (Some keys.Publish) first image sight signer = IsFitForMap first image sight signer
IsFit (Some keys.Succeed) first image sight signer = IsFitForNext image sight signer
IsFit (Some keys.Links) first image sight signer = IsTold image sight × (signer ≡ None)
IsFit what first image sight signer = (sight ≡ None) × (signer ≡ None)

-- a crash leaves the octets that a read gives, and nothing else
abbrev pub IsStable : {D : Type 0} → Ghosts D → D → Type 0
IsStable g disk = EachImage g disk (λ i. g.content disk ≡ Some i)

-- a command that signs, or writes signatures again, begins with such a disk
abbrev pub BeginsStable : {D : Type 0} → Ghosts D → Option Use → D → Type 0
BeginsStable g None new = Unit {0}
BeginsStable g (Some keys.Key) new = Unit {0}
BeginsStable g (Some what) new = IsStable g new
