-- Texts at their positions in octets.
use Rattle.std.specs.Prelude.{ℕ, ◌-◌, ◌<◌, ◌≤◌, ◌^◌, List, length, take, drop, All}
use Rattle.merkle_cover.specs.declared.cuts.Cut.{Cut}

-- the octets from the start of a cut up to its end
abbrev pub cut_from : List ℕ → Cut → List ℕ
cut_from octets cut = take (cut.end - cut.start) (drop cut.start octets)

-- a cut that lies in the octets
pub record IsIn (octets : List ℕ) (cut : Cut) : Type 0 where
  pub order : cut.start ≤ cut.end
  pub within : cut.end ≤ length octets

-- all cuts lie in the octets, and there are fewer than 2 ^ 32 cuts
pub record AreIn (octets : List ℕ) (cuts : List Cut) : Type 0 where
  pub count : length cuts < 2 ^ 32
  pub each : All (IsIn octets) cuts
