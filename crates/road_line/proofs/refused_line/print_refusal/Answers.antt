use Rattle.road_line.proofs.refused_line.print_refusal.Goals as goal

pub returns-in-BadSignature : goal.returns-in-BadSignature
returns-in-BadSignature c = rw c.in-BadSignature.is (rw c.name_of_seal-name-in-BadSignature.ensures at c.print_named.ensures)

pub returns-in-MissingTuple : goal.returns-in-MissingTuple
returns-in-MissingTuple c = rw c.in-MissingTuple.is c.print-in-MissingTuple.ensures.bytes
