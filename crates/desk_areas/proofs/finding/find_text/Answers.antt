use Rattle.std.proofs.Common.{arith, ◌∙◌}
use Rattle.std.proofs.lemmas.Grind.{common_steps}
use Rattle.desk_areas.proofs.Moments.{stays_twice}
use Rattle.desk_areas.proofs.finding.find_text.Goals as goal
use Rattle.desk_areas.proofs.finding.find_text.Goals.{then-eq+in_ok-has_text+else-branch, else-eq}

pub loop-count-preserved : goal.loop-count-preserved
loop-count-preserved g c =
    let before = c.loop-count.invariant in
    elim c.if-eq.branch [
      | then-eq+in_ok-has_text+else-branch w ↦
          rw w.disk-is (record {
            content = λ x told. before.content x (w.has_text.ensures.content x told);
            moments = stays_twice g.D.Disk _ _ _ before.moments w.has_text.ensures.moments;
            faults = w.in_ok-has_text.ensures.kept ∙ before.faults;
            at = omega arith;
            none = grind (arith, common_steps);
          })
      | else-eq w ↦
          rw w.disk-is (record {
            content = before.content;
            moments = before.moments;
            faults = before.faults;
            at = omega arith;
            none = grind (arith, common_steps);
          })
    ]
