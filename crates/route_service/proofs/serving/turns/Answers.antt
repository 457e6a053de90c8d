use Rattle.std.proofs.Common.{refl, sym, ap, append-nil, [], take, length-take-le, arith, ◌∙◌}
use Rattle.route_service.specs.Sessions.{state_of}
use Rattle.route_service.proofs.Isolated.{isolated}
use Rattle.road_io.proofs.ReadLemmas.{Consumes-none}
use Rattle.route_service.specs.declared.reading.FrameError.TheVariants.{TooLong, Truncated, Source, Memory}
use Rattle.route_service.proofs.ServeLemmas.{served-more, given_more, given_many, given_refused, given_unanswered, given_cut, Appends-none}
use Rattle.route_service.proofs.serving.turns.Goals as goal
use Rattle.octet_text.specs.Want.{no_memory}

pub loop-served-init : goal.loop-served-init
loop-served-init g c = record {
  within = omega arith;
  served = record { frames = []; replies = []; took = Consumes-none _; wrote = Appends-none _; run = refl; isolated = isolated _ _ _ _ [] [] refl; short = tt; number = refl };
  gave = record {
    octets = [];
    gave = sym (append-nil _);
    is = record { frames = []; replies = []; took = refl; wrote = Appends-none _; run = refl; isolated = isolated _ _ _ _ [] [] refl; short = tt; number = refl };
  };
  source_kept = refl;
  sink_kept = refl;
}

pub loop-served-preserved : goal.loop-served-preserved
loop-served-preserved g c =
    let takes = rw c.in-Ok-true.field-0-test at c.in-Ok-true.ensures.takes in
    let gave = rw c.in-Ok-true.field-0-test at c.in-Ok-true.ensures.gave in
    let step = rw c.as_slice.ensures.value at c.in-Ok.ensures.step in
    let wrote = rw c.as_slice-in-loop-served.ensures.value at c.in-Ok-write_frame.ensures.ok in
    record {
      within = omega (arith, c.loop-served-test.true);
      served = served-more _ _ _ _ _ _ _ _ _ _ _ _ _ c.next_frame.new.body.items c.in-Ok.reply.items c.loop-served.invariant.served takes.1 takes.0 step wrote;
      gave = given_more _ _ _ _ _ _ _ _ _ _ _ _ _ c.next_frame.new.body.items c.in-Ok.reply.items c.loop-served.invariant.gave gave step wrote;
      source_kept = (c.in-Ok-true.ensures.kept (λ e. absurd (cc))) ∙ c.loop-served.invariant.source_kept;
      sink_kept = c.in-Ok-write_frame.ensures.kept ∙ c.loop-served.invariant.sink_kept;
    }

pub returns-in-Err-write_frame-clause-serves : goal.returns-in-Err-write_frame-clause-serves
returns-in-Err-write_frame-clause-serves g c =
    let takes = rw c.in-Ok-true.field-0-test at c.in-Ok-true.ensures.takes in
    let step = rw c.as_slice.ensures.value at c.in-Ok.ensures.step in
    let wrote = rw c.as_slice-in-loop-served.ensures.value at c.in-Err-write_frame.ensures.err in (
      c.loop-served.served,
      c.loop-served-test.true,
      record {
        state = state_of c.loop-served.service;
        between = _;
        written = _;
        served = c.loop-served.invariant.served;
        frame = c.next_frame.new.body.items;
        reply = c.in-Ok.reply.items;
        short = takes.0;
        took = takes.1;
        step = step;
        front = wrote;
      },
    )

pub returns-in-Err-TooLong-clause-gave : goal.returns-in-Err-TooLong-clause-gave
returns-in-Err-TooLong-clause-gave g c =
    given_refused _ _ _ _ _ _ _ _ _ _ _ _ c.next_frame.new.body.items TooLong c.loop-served-test.true c.loop-served.invariant.gave (rw c.in-Err-TooLong.field-0-is at c.in-Err-TooLong.ensures.gave)

pub returns-in-Err-Truncated-clause-gave : goal.returns-in-Err-Truncated-clause-gave
returns-in-Err-Truncated-clause-gave g c =
    given_refused _ _ _ _ _ _ _ _ _ _ _ _ c.next_frame.new.body.items Truncated c.loop-served-test.true c.loop-served.invariant.gave (rw c.in-Err-Truncated.field-0-is at c.in-Err-Truncated.ensures.gave)

pub returns-in-Err-Source-clause-gave : goal.returns-in-Err-Source-clause-gave
returns-in-Err-Source-clause-gave g c =
    given_refused _ _ _ _ _ _ _ _ _ _ _ _ c.next_frame.new.body.items Source c.loop-served-test.true c.loop-served.invariant.gave (rw c.in-Err-Source.field-0-is at c.in-Err-Source.ensures.gave)

pub returns-in-Err-Memory-clause-gave : goal.returns-in-Err-Memory-clause-gave
returns-in-Err-Memory-clause-gave g c =
    given_refused _ _ _ _ _ _ _ _ _ _ _ _ c.next_frame.new.body.items (Memory no_memory) c.loop-served-test.true c.loop-served.invariant.gave (rw c.in-Err-Memory.field-0-is at c.in-Err-Memory.ensures.gave)

pub returns-in-Err-clause-gave : goal.returns-in-Err-clause-gave
returns-in-Err-clause-gave g c =
    given_unanswered _ _ _ _ _ _ _ _ _ _ _ _ _ c.next_frame.new.body.items (ap state_of c.in-Err.ensures.err) c.loop-served-test.true c.loop-served.invariant.gave (rw c.in-Ok-true.field-0-test at c.in-Ok-true.ensures.gave)

pub returns-in-Err-write_frame-clause-gave : goal.returns-in-Err-write_frame-clause-gave
returns-in-Err-write_frame-clause-gave g c =
    let gave = rw c.in-Ok-true.field-0-test at c.in-Ok-true.ensures.gave in
    let step = rw c.as_slice.ensures.value at c.in-Ok.ensures.step in
    let front = rw c.as_slice-in-loop-served.ensures.value at c.in-Err-write_frame.ensures.err in
    given_cut _ _ _ _ _ _ _ _ _ _ _ _ _ _ c.next_frame.new.body.items c.in-Ok.reply.items c.loop-served-test.true c.loop-served.invariant.gave gave step front

pub returns-in-Ok-read-clause-gave : goal.returns-in-Ok-read-clause-gave
returns-in-Ok-read-clause-gave g c =
    let some = c.in-Ok-read.field-0-test.1 in
    let size = length-take-le c.in-Ok-read.field-0 c.read.new.into c.in-Ok-read.ensures.most in
    given_many _ _ _ _ _ _ _ _ _ _ _ _ (take c.in-Ok-read.field-0 c.read.new.into) (omega (arith, c.loop-served.invariant.within, c.loop-served-test.false)) c.loop-served.invariant.gave c.in-Ok-read.ensures.gave
    (rw size (omega (arith, some, c.in-Ok-read.ensures.most, c.read.auto.into)))
