use Rattle.std.proofs.Common.{◌≡◌, length}
use Rattle.road_map.specs.Chains.{AreChained}
use Rattle.road_map.proofs.chains.chains_of.Given as goal

-- the roads from the index on are chained
abbrev pub invariant-loop-index : goal.invariant-loop-index
invariant-loop-index l = record {
  count : length l.first.items ≡ l.count;
  chained : AreChained l.roads l.index l.first.items l.next.items;
}
