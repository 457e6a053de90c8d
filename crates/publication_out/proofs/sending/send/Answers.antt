use Rattle.std.proofs.Common.{arith, refl, ◌∙◌, rules}
use Rattle.publication_out.proofs.SendLemmas.{begins, goes_on, all_sent, front_sent, on_err}
use Rattle.publication_out.proofs.sending.send.Goals as goal

pub loop-count-init : goal.loop-count-init
loop-count-init g c = record {
  counted = refl;
  same_most = refl;
  kept = refl;
  later = omega arith;
  roomy = λ h. h;
  way = begins _ _ _ _ _ _ _ _ _ _ _ _ _ _ _ _ c.pieces_of-pieces.ensures (search rules) c.next-count.ensures.count c.next-count.ensures.given c.next-count.ensures.left;
}

pub loop-count-preserved : goal.loop-count-preserved
loop-count-preserved g c = record {
  counted = c.put.ensures.count ∙ c.loop-count.invariant.counted;
  same_most = c.put.ensures.most ∙ c.loop-count.invariant.same_most;
  kept = c.in_ok-write_all.ensures.kept ∙ c.loop-count.invariant.kept;
  later = omega (arith, c.in_ok-write_all.ensures.cause.later, c.loop-count.invariant.later);
  roomy = λ h. c.put.ensures.roomy (c.loop-count.invariant.roomy h);
  way = goes_on _ _ _ _ _ _ _ _ _ _ _ _ _ _ _ _ _ _ _ _ c.put.ensures.spread.0 _ _ _ _ _ (omega (arith, c.loop-count-test.true)) c.loop-count-test.array_long refl c.in_ok-write_all.ensures.ok c.put.ensures.spread.2
      c.next-count-in-loop-count.ensures.count c.next-count-in-loop-count.ensures.given c.next-count-in-loop-count.ensures.left (λ h. c.put.ensures.parted (c.loop-count.invariant.roomy h)) c.loop-count.invariant.way;
}

pub returns-in_err-write_all-clause-front : goal.returns-in_err-write_all-clause-front
returns-in_err-write_all-clause-front g c =
    on_err c.from_residual.result _ (front_sent _ _ _ _ _ _ _ _ _ _ _ _ _ _ _ _ _ _ _ refl c.in_err-write_all.ensures.err c.loop-count.invariant.way).0

pub returns-in_err-write_all-clause-mirrored_front : goal.returns-in_err-write_all-clause-mirrored_front
returns-in_err-write_all-clause-mirrored_front g c =
    on_err c.from_residual.result _ (front_sent _ _ _ _ _ _ _ _ _ _ _ _ _ _ _ _ _ _ _ refl c.in_err-write_all.ensures.err c.loop-count.invariant.way).1

pub returns-clause-mirrored : goal.returns-clause-mirrored
returns-clause-mirrored g c = (all_sent _ _ _ _ _ _ _ _ _ _ _ _ _ _ _ _ _ (omega (arith, c.loop-count-test.false)) c.loop-count.invariant.way).1

pub returns-in_err-write_all-clause-parted_front : goal.returns-in_err-write_all-clause-parted_front
returns-in_err-write_all-clause-parted_front g c =
    on_err c.from_residual.result _ (front_sent _ _ _ _ _ _ _ _ _ _ _ _ _ _ _ _ _ _ _ refl c.in_err-write_all.ensures.err c.loop-count.invariant.way).2

pub returns-clause-parted : goal.returns-clause-parted
returns-clause-parted g c = (all_sent _ _ _ _ _ _ _ _ _ _ _ _ _ _ _ _ _ (omega (arith, c.loop-count-test.false)) c.loop-count.invariant.way).2
