use Rattle.std.proofs.Common.{refl, [], take, length-take-le, arith}
use Rattle.std.specs.declared.option.Option.TheVariants.{Some}
use Rattle.route_service.proofs.FrameLemmas.{Consumes-head, Consumes_alone}
use Rattle.route_service.proofs.reading.read_head.Goals as goal

pub returns-in-Ok-2-clause-takes : goal.returns-in-Ok-2-clause-takes
returns-in-Ok-2-clause-takes g c = Consumes-head _ _ c.read_whole.new.into c.in-Ok.n c.size_of.result c.in-Ok.ensures.took c.in-Ok.ensures.most c.if-n-lt4.false c.read_whole.ensures.size c.size_of.ensures

pub returns-in-Ok-eq0-clause-gave : goal.returns-in-Ok-eq0-clause-gave
returns-in-Ok-eq0-clause-gave g c =
    let gave = rw c.in-Ok-eq0.field-0-test at c.in-Ok-eq0.ensures.gave in
    record { octets = []; gave = gave; is = (refl, refl) }

pub returns-in-Ok-clause-gave : goal.returns-in-Ok-clause-gave
returns-in-Ok-clause-gave g c =
    let octets = take c.in-Ok.n c.read_whole.new.into in
    let size = length-take-le c.in-Ok.n c.read_whole.new.into c.in-Ok.ensures.most in
    record { octets = octets; gave = c.in-Ok.ensures.gave; is = (octets, rw size (omega arith), rw size (omega arith), Consumes_alone octets, refl) }

pub returns-in-Ok-2-clause-gave : goal.returns-in-Ok-2-clause-gave
returns-in-Ok-2-clause-gave g c =
    let octets = take c.in-Ok.n c.read_whole.new.into in
    record {
      octets = octets;
      gave = c.in-Ok.ensures.gave;
      is = Consumes-head (Some octets) (Some []) c.read_whole.new.into c.in-Ok.n c.size_of.result (Consumes_alone octets) c.in-Ok.ensures.most c.if-n-lt4.false c.read_whole.ensures.size c.size_of.ensures;
    }

pub returns-in-Err-clause-gave : goal.returns-in-Err-clause-gave
returns-in-Err-clause-gave g c =
    let some = c.in-Err.ensures.gave_some in
    record {
      octets = some.octets;
      gave = some.gave;
      is = (some.octets, some.is, Consumes_alone some.octets);
    }
