use Rattle.std.proofs.Common.{◌≡◌, ◌/◌, ◌^◌, length, IfSome, IfNone}
use Rattle.octet_text.specs.Collisions.{AreCollision}
use Rattle.lms_reduce.specs.Meetings.{IsHighestMeeting}
use Rattle.lms_reduce.specs.Ways.{raised}
use Rattle.lms_reduce.proofs.ways.highest_meeting.Given as goal

abbrev pub invariant-loop-level : goal.invariant-loop-level
invariant-loop-level g l =
    let hash = g.H.Hasher.hash in
    record {
      node_is : l.node ≡ l.r / 2 ^ l.level;
      left_size : length l.left ≡ 32;
      right_size : length l.right ≡ 32;
      left_is : l.left ≡ raised hash l.i l.r l.initial.left l.left_path l.level;
      right_is : l.right ≡ raised hash l.i l.r l.initial.right l.right_path l.level;
      found : IfSome l.highest (λ two. AreCollision hash two.left two.right);
      highest : IfSome l.highest (λ two. IsHighestMeeting hash l.i l.r l.initial.left l.left_path l.initial.right l.right_path l.level two.left two.right);
      together : IfNone l.highest (l.left ≡ l.right → l.initial.left ≡ l.initial.right);
    }
