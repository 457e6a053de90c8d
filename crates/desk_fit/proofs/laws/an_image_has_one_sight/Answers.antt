use Rattle.desk_sight.proofs.Exclusive.{seen_right, seen_told}
use Rattle.desk_fit.proofs.OneSight.{one_sight}
use Rattle.desk_fit.proofs.laws.an_image_has_one_sight.Goals as goal

pub returns-clause-one : goal.returns-clause-one
returns-clause-one c image sight other = one_sight image sight other

pub returns-clause-plain : goal.returns-clause-plain
returns-clause-plain c image sight strange seen = seen_right image sight seen strange

pub returns-clause-told : goal.returns-clause-told
returns-clause-told c image sight = seen_told image sight
