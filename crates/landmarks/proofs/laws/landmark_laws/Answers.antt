use Rattle.landmarks.proofs.CountLaws.{landmarks_long}
use Rattle.landmarks.proofs.FarthestLaws.{farthest_is, no_farthest_is}
use Rattle.landmarks.proofs.laws.landmark_laws.Goals as goal

pub returns-clause-count : goal.returns-clause-count
returns-clause-count c = landmarks_long

pub returns-clause-farthest : goal.returns-clause-farthest
returns-clause-farthest c = farthest_is

pub returns-clause-none : goal.returns-clause-none
returns-clause-none c = no_farthest_is
