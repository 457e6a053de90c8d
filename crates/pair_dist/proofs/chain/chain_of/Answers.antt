use Rattle.std.proofs.Common.{get_or, IfSome, subst}
use Rattle.std.proofs.lemmas.Option.{slice_get-get_or}
use Rattle.pair_dist.specs.Chains.{IsLink}
use Rattle.pair_dist.proofs.LinkLaws.{chain_more}
use Rattle.pair_dist.proofs.chain.chain_of.Goals as goal

pub loop-own-preserved : goal.loop-own-preserved
loop-own-preserved g c =
    let p = get_or c.args.places.now c.loop-own.own 0 in
    chain_more (g.R.Rows.rows c.args.rows.now) c.args.walls.now c.args.places.now c.loop-own.own p c.loop-own.chain.items c.push.new.list.items c.in-Some.row (slice_get-get_or c.args.places.now c.loop-own.own 0 c.loop-own-test.true) c.in_ok-push.ensures.items
    (subst (λ o. IfSome o (IsLink (g.R.Rows.rows c.args.rows.now) c.args.walls.now c.args.places.now c.loop-own.own p)) c.in-Some.is c.in_ok-row.ensures) c.loop-own.invariant
