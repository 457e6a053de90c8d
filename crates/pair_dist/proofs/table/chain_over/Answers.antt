use Rattle.std.proofs.Common.{IfSome, sym, subst}
use Rattle.pair_dist.specs.Chains.{AreWalls, IsChain}
use Rattle.pair_dist.proofs.ChainLaws.{chain_least}
use Rattle.pair_dist.proofs.ThinLaws.{thin_keeps}
use Rattle.pair_dist.proofs.table.chain_over.Goals as goal

pub returns : goal.returns
returns g c =
    let rows = g.R.Rows.rows c.args.rows.now in
    let places = c.args.places.now in
    let walls = c.as_slice.result.now in
    let is : IsChain rows walls places c.in-Some.chain = subst (λ o. IfSome o (IsChain rows walls places)) c.in-Some.is c.in_ok-chain_of.ensures in
    let are : AreWalls places walls = subst (AreWalls places) (sym c.as_slice.ensures.value) c.in_ok-walls.ensures in
    thin_keeps rows places c.in-Some.chain _ (chain_least rows walls places c.in-Some.chain are is) c.in_ok-thinned-in-Some.ensures
