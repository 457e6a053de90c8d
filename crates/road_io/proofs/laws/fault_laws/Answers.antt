use Rattle.std.proofs.Common.{arith}
use Rattle.road_io.proofs.laws.fault_laws.Goals as goal

pub returns-clause-stands : goal.returns-clause-stands
returns-clause-stands c = λ count small rose. grind (arith, small, rose)

pub returns-clause-rises : goal.returns-clause-rises
returns-clause-rises c = λ count. grind arith

pub returns-clause-end : goal.returns-clause-end
returns-clause-end c = grind arith

pub returns-clause-longer : goal.returns-clause-longer
returns-clause-longer c = λ before first second now earlier later rose. grind (arith, earlier, later, rose)
