use Rattle.std.proofs.Common.{◌∙◌, ℕ, ap, arith, sym}
use Rattle.octet_text.specs.Collisions.{AreCollision}
use Rattle.lms_reduce.specs.Meetings.{text_of_step}
use Rattle.lms_reduce.specs.Texts.{step_text}
use Rattle.lms_reduce.proofs.MeetingLemmas.{none-here, one-more}
use Rattle.lms_reduce.proofs.WayLemmas.{walked-none, walked-more, step_text-same}
use Rattle.lms_reduce.proofs.ways.meeting.Goals as goal

pub loop-number-init : goal.loop-number-init
loop-number-init g c =
    let i = c.args.i.now in
    record {
      left_is = walked-none g.H.Hasher.hash i c.args.q c.args.at c.args.from c.args.left.now;
      right_is = walked-none g.H.Hasher.hash i c.args.q c.args.at c.args.from c.args.right.now;
      before = λ b lo hi _. omega (arith, lo, hi);
      together = λ e. e;
    }

pub loop-number-preserved : goal.loop-number-preserved
loop-number-preserved g c =
    let hash = g.H.Hasher.hash in
    let i = c.args.i.now in
    let q = c.args.q in
    let at = c.args.at in
    let number = c.loop-number.number in
    let so_far = c.loop-number.invariant in
    let left = c.step_text.ensures in
    let right = c.step_text-in-loop-number.ensures in
    let ends = text_of_step hash i q at c.args.from in
    record {
      before = one-more (λ (b : ℕ). ¬ AreCollision hash (ends c.args.left.now b) (ends c.args.right.now b)) c.args.from number so_far.before
          (none-here hash _ _ _ _ c.digest_of-left.result c.digest_of-right.result (left ∙ ap (step_text i q at number) so_far.left_is) (right ∙ ap (step_text i q at number) so_far.right_is) c.digest_of-left.ensures c.digest_of-right.ensures c.if-is_collision.ensures.none);
      left_is = c.digest_of-left.ensures ∙ ap hash left ∙ walked-more hash i q at c.args.from number c.args.left.now c.loop-number.left c.loop-number.auto.number so_far.left_is;
      right_is = c.digest_of-right.ensures ∙ ap hash right ∙ walked-more hash i q at c.args.from number c.args.right.now c.loop-number.right c.loop-number.auto.number so_far.right_is;
      together = λ e. so_far.together (step_text-same i q at number c.loop-number.left c.loop-number.right (sym left ∙ c.if-is_collision.ensures.none e ∙ right));
    }
