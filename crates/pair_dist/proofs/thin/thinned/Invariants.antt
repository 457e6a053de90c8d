use Rattle.std.proofs.Common.{◌≡◌, length}
use Rattle.pair_dist.specs.Thinning.{Agrees}
use Rattle.pair_dist.proofs.thin.thinned.Given as goal

abbrev pub invariant-loop-number : goal.invariant-loop-number
invariant-loop-number l = record {
  long : length l.rows.items ≡ l.number-end;
  agrees : Agrees l.fn.chain l.rows.items;
}
