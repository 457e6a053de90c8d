use Rattle.std.proofs.Common.{◌+◌, ◌≤◌, [], length, get_or, ap, ◌∙◌, arith, rules}
use Rattle.std.proofs.lemmas.List.{length-map}
use Rattle.road_leaf.specs.Leaves.{pair_leaf}
use Rattle.route_server.specs.Headers.{pair_texts}
use Rattle.route_server.proofs.HeaderLemmas.{root_some}
use Rattle.route_server.proofs.RisenLemmas.{pair_at}
use Rattle.route_server.proofs.risen.pair_root.Goals as goal

pub loop-pair-init : goal.loop-pair-init
loop-pair-init g c = record {
  pushed_is = c.in_ok-rising.ensures.unpushed;
  leaves_is = c.in_ok-rising.ensures.leaves;
  takes = c.in_ok-rising.ensures.takes _ (length-map c.args.pairs.now pair_leaf.spell);
}

pub loop-pair-preserved : goal.loop-pair-preserved
loop-pair-preserved g c =
    let inv = c.loop-pair.invariant in
    record {
      pushed_is = c.push.ensures.pushed ∙ ap (λ n. n + 1) inv.pushed_is;
      leaves_is = c.push.ensures.leaves ∙ inv.leaves_is;
      takes = c.push.ensures.takes _ _ _ inv.takes
          (ap (λ i. get_or (pair_texts c.args.pairs.now) i []) inv.pushed_is
          ∙ pair_at c.args.pairs.now c.loop-pair.pair-index _ _ c.loop-pair-test.true c.write.ensures);
    }

pub returns : goal.returns
returns g c =
    let some : 1 ≤ length c.args.pairs.now = search rules in
    c.end.ensures.root _ _ _ c.loop-pair.invariant.takes ∙ root_some g.H.Hasher.hash c.args.fan (pair_texts c.args.pairs.now) (omega (arith, some, length-map c.args.pairs.now pair_leaf.spell))
