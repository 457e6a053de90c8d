use Rattle.std.proofs.Common.{arith, [], ◌++◌}
use Rattle.std.specs.declared.option.Option.TheVariants.{Some}
use Rattle.std.specs.Int.{w32, to_be_bytes}
use Rattle.road_io.proofs.ReadLemmas.{Consumes-++, gave_more}
use Rattle.route_service.proofs.FrameLemmas.{Consumes-frame, Consumes_both, part_head, part_body}
use Rattle.route_service.proofs.reading.next_frame.Goals as goal

pub returns-in-Ok-clause-takes : goal.returns-in-Ok-clause-takes
returns-in-Ok-clause-takes g c = let t = c.in-Ok.ensures.takes in let head = rw c.in-Ok-Some.field-0-is at c.in-Ok-Some.ensures.takes in (
  omega (arith, t.0, c.if-size-most.false),
  Consumes-frame _ _ c.in-Ok-Some.size _ t.0 (Consumes-++ _ _ _ _ _ head t.1),
)

pub returns-in-Err-Truncated-read_body-clause-takes : goal.returns-in-Err-Truncated-read_body-clause-takes
returns-in-Err-Truncated-read_body-clause-takes g c = let t = rw c.in-Err-Truncated-read_body.field-0-is at c.in-Err-Truncated-read_body.ensures.takes in let head = rw c.in-Ok-Some.field-0-is at c.in-Ok-Some.ensures.takes in (
  to_be_bytes w32 c.in-Ok-Some.size ++ t.0,
  omega arith,
  part_body _ _ _ (omega (arith, c.ranges.most.fits, c.if-size-most.false)) c.if-size-most.false t.1,
  Consumes-++ _ _ _ _ _ head t.2,
  t.3,
)

pub returns-in-Err-Source-read_body-clause-takes : goal.returns-in-Err-Source-read_body-clause-takes
returns-in-Err-Source-read_body-clause-takes g c = let t = rw c.in-Err-Source-read_body.field-0-is at c.in-Err-Source-read_body.ensures.takes in let head = rw c.in-Ok-Some.field-0-is at c.in-Ok-Some.ensures.takes in (
  to_be_bytes w32 c.in-Ok-Some.size ++ t.0,
  part_body _ _ _ (omega (arith, c.ranges.most.fits, c.if-size-most.false)) c.if-size-most.false t.1,
  Consumes-++ _ _ _ _ _ head t.2,
)

pub returns-in-Ok-None-clause-gave : goal.returns-in-Ok-None-clause-gave
returns-in-Ok-None-clause-gave g c = let t = rw c.in-Ok-None.field-0-is at c.in-Ok-None.ensures.gave in record { octets = t.octets; gave = t.gave; is = t.is }

pub returns-in-Err-Truncated-clause-gave : goal.returns-in-Err-Truncated-clause-gave
returns-in-Err-Truncated-clause-gave g c = let t = rw c.in-Err-Truncated.field-0-is at c.in-Err-Truncated.ensures.gave in record {
  octets = t.octets;
  gave = t.gave;
  is = (t.is.0, t.is.1, part_head _ _ t.is.2, t.is.3, t.is.4);
}

pub returns-in-Err-Source-clause-gave : goal.returns-in-Err-Source-clause-gave
returns-in-Err-Source-clause-gave g c = let t = rw c.in-Err-Source.field-0-is at c.in-Err-Source.ensures.gave in record {
  octets = t.octets;
  gave = t.gave;
  is = (t.is.0, part_head _ _ t.is.1, t.is.2);
}

pub returns-in-Ok-clause-gave : goal.returns-in-Ok-clause-gave
returns-in-Ok-clause-gave g c =
    let head = rw c.in-Ok-Some.field-0-is at c.in-Ok-Some.ensures.gave in
    let body = c.in-Ok.ensures.gave in
    record {
      octets = head.octets ++ body.octets;
      gave = gave_more _ _ _ _ _ head.gave body.gave;
      is = (omega (arith, body.is.0, c.if-size-most.false), Consumes-frame (Some (head.octets ++ body.octets)) (Some []) c.in-Ok-Some.size _ body.is.0 (Consumes_both head.octets body.octets (to_be_bytes w32 c.in-Ok-Some.size) _ head.is body.is.1));
    }

pub returns-in-Err-Truncated-read_body-clause-gave : goal.returns-in-Err-Truncated-read_body-clause-gave
returns-in-Err-Truncated-read_body-clause-gave g c =
    let head = rw c.in-Ok-Some.field-0-is at c.in-Ok-Some.ensures.gave in
    let body = rw c.in-Err-Truncated-read_body.field-0-is at c.in-Err-Truncated-read_body.ensures.gave in
    record {
      octets = head.octets ++ body.octets;
      gave = gave_more _ _ _ _ _ head.gave body.gave;
      is = (
        to_be_bytes w32 c.in-Ok-Some.size ++ body.is.0,
        omega arith,
        part_body _ _ _ (omega (arith, c.ranges.most.fits, c.if-size-most.false)) c.if-size-most.false body.is.1,
        Consumes_both head.octets body.octets (to_be_bytes w32 c.in-Ok-Some.size) body.is.0 head.is body.is.2,
        body.is.3,
      );
    }

pub returns-in-Err-Source-read_body-clause-gave : goal.returns-in-Err-Source-read_body-clause-gave
returns-in-Err-Source-read_body-clause-gave g c =
    let head = rw c.in-Ok-Some.field-0-is at c.in-Ok-Some.ensures.gave in
    let body = rw c.in-Err-Source-read_body.field-0-is at c.in-Err-Source-read_body.ensures.gave in
    record {
      octets = head.octets ++ body.octets;
      gave = gave_more _ _ _ _ _ head.gave body.gave;
      is = (
        to_be_bytes w32 c.in-Ok-Some.size ++ body.is.0,
        part_body _ _ _ (omega (arith, c.ranges.most.fits, c.if-size-most.false)) c.if-size-most.false body.is.1,
        Consumes_both head.octets body.octets (to_be_bytes w32 c.in-Ok-Some.size) body.is.0 head.is body.is.2,
      );
    }
