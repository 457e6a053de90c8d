use Rattle.std.proofs.Common.{◌≡◌, ℕ, Option, take, map}
use Rattle.road_map.specs.Walks.{ids}
use Rattle.landmarks.specs.Rows.{Gives}
use Rattle.landmarks.proofs.lengths.lengths_of.Given as goal

abbrev pub invariant-loop-position : goal.invariant-loop-position
invariant-loop-position l = (f : ℕ → Option ℕ) → Gives l.survey f → l.items.items ≡ map f (take l.position (ids l.survey.map.order))
