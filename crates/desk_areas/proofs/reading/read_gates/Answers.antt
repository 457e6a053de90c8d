use Rattle.std.proofs.Common.{arith, ◌∙◌}
use Rattle.std.proofs.lemmas.Grind.{common_steps}
use Rattle.desk_areas.proofs.Moments.{stays_twice}
use Rattle.desk_areas.proofs.CallLemmas.{called_then}
use Rattle.desk_areas.proofs.reading.read_gates.Goals as goal

pub loop-slot-preserved : goal.loop-slot-preserved
loop-slot-preserved g c =
    let before = c.loop-slot.invariant in
    record {
      content = λ x told. before.content x (c.read_gate.ensures.content x told);
      moments = stays_twice g.D.Disk _ _ _ before.moments c.read_gate.ensures.moments;
      faults = c.in_ok-spent.ensures.kept ∙ before.faults;
      called = called_then c.loop-slot.slot 1 _ _ _ before.called (λ low. c.read_gate.ensures.counted);
      few = omega arith;
      size = grind (arith, common_steps);
      free = grind (arith, common_steps);
      spent = grind (arith, common_steps);
      either = grind (arith, common_steps);
    }
