use Rattle.std.proofs.Common.{◌≡◌, ℕ, ◌-◌, ◌<◌, ◌≤◌}
use Rattle.octet_text.specs.Collisions.{AreCollision}
use Rattle.lms_reduce.specs.Meetings.{text_of_step}
use Rattle.lms_reduce.specs.Ways.{walked}
use Rattle.lms_reduce.proofs.ways.meeting.Given as goal

abbrev pub invariant-loop-number : goal.invariant-loop-number
invariant-loop-number g l =
    let hash = g.H.Hasher.hash in
    record {
      left_is : l.left ≡ walked hash l.i l.q l.at l.from (l.number - l.from) l.initial.left;
      right_is : l.right ≡ walked hash l.i l.q l.at l.from (l.number - l.from) l.initial.right;
      before : (b : ℕ) → l.from ≤ b → b < l.number → ¬ AreCollision hash (text_of_step hash l.i l.q l.at l.from l.initial.left b) (text_of_step hash l.i l.q l.at l.from l.initial.right b);
      together : l.left ≡ l.right → l.initial.left ≡ l.initial.right;
    }
