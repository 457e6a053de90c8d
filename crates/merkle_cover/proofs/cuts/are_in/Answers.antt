use Rattle.std.proofs.Common.{◌≤◌, length, arith, subst}
use Rattle.std.proofs.lemmas.List.{take_all}
use Rattle.std.proofs.lemmas.List.Elements.{All-more}
use Rattle.std.specs.Prelude.{All}
use Rattle.merkle_cover.specs.Cuts.{IsIn}
use Rattle.merkle_cover.proofs.cuts.are_in.Goals as goal

pub loop-cut-preserved : goal.loop-cut-preserved
loop-cut-preserved c =
    All-more (IsIn c.args.octets.now) c.args.cuts.now c.loop-cut.cut-index _ c.loop-cut-test.true c.loop-cut.invariant
    (record { order = c.if-cut.false; within = c.if-octets-cut.false })

pub returns : goal.returns
returns c =
    let all : length c.args.cuts.now ≤ c.loop-cut.cut-index = omega (arith, c.loop-cut-test.false) in
    record {
      count = omega (arith, c.if-cuts.false);
      each = subst (All (IsIn c.args.octets.now)) (take_all c.loop-cut.cut-index c.args.cuts.now all) c.loop-cut.invariant;
    }
