use Rattle.std.proofs.Common.{arith, ◌∙◌}
use Rattle.std.proofs.lemmas.Grind.{common_steps}
use Rattle.desk_areas.proofs.Moments.{stays_twice}
use Rattle.desk_areas.proofs.reading.has_stray.Goals as goal
use Rattle.desk_areas.proofs.reading.has_stray.Goals.{then-number-counts+then-eq+in_ok-read_link+else-is_some, else-number-counts, else-number-counts-via-then-number-counts+else-eq, else-number-counts-via-else-number-counts}

pub loop-count-preserved : goal.loop-count-preserved
loop-count-preserved g c =
    elim c.if-number-counts.branch [
      | then-number-counts+then-eq+in_ok-read_link+else-is_some w ↦
          rw w.disk-is (record {
            content = λ x told. c.loop-count.invariant.content x (w.read_link.ensures.content x told);
            moments = stays_twice g.D.Disk _ _ _ c.loop-count.invariant.moments w.read_link.ensures.moments;
            faults = w.in_ok-read_link.ensures.kept ∙ c.loop-count.invariant.faults;
            called = grind (arith, common_steps);
            few = omega arith;
            at = omega arith;
            none = grind (arith, common_steps);
          })
      | else-number-counts w ↦
          rw w.disk-is (record {
            content = c.loop-count.invariant.content;
            moments = c.loop-count.invariant.moments;
            faults = c.loop-count.invariant.faults;
            called = elim w.else-number-counts.branch [
              | else-number-counts-via-then-number-counts+else-eq w' ↦ grind (arith, common_steps)
              | else-number-counts-via-else-number-counts w' ↦ grind (arith, common_steps)
            ];
            few = omega arith;
            at = omega arith;
            none = elim w.else-number-counts.branch [
              | else-number-counts-via-then-number-counts+else-eq w' ↦ grind (arith, common_steps)
              | else-number-counts-via-else-number-counts w' ↦ grind (arith, common_steps)
            ];
          })
    ]
