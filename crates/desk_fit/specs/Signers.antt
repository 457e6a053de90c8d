-- The key that signs the maps of a desk, if its first key is known.
use Rattle.std.specs.Prelude.{◌≡◌, ℕ, zero, suc, List, MatchOption}
use Rattle.std.specs.declared.option.Option.{Option}
use Rattle.std.specs.declared.option.Option.TheVariants.{None, Some}
use Rattle.desk_areas.specs.Layout.{text_of, last_slot, IsCurrent}
use Rattle.desk_areas.specs.Reading.{IsLinkTo}
use Rattle.desk_sight.specs.Sights.{IsUntold}

-- the key of an area: the first key is known, and the link text before each later area names its key
abbrev pub IsKeyOf : List ℕ → List ℕ → ℕ → List ℕ → Type 0
IsKeyOf first image zero key = key ≡ first
IsKeyOf first image (suc area) key = IsLinkTo (text_of image (last_slot image area)) key

-- the key of the current area
pub record IsSigner (first image key : List ℕ) : Type 0 where
  pub area : ℕ
  pub current : IsCurrent image area
  pub is : IsKeyOf first image area key

-- If the first key is known, the key of the current area is expected; if no key can be recognised, none is
-- expected.
abbrev pub AwaitsSigner : Option (List ℕ) → List ℕ → Option (List ℕ) → Type 0
AwaitsSigner None image signer = signer ≡ None
AwaitsSigner (Some first) image signer = MatchOption signer (IsUntold image) (IsSigner first image)
