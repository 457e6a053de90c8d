use Rattle.std.proofs.Common.{◌≡◌, map}
use Rattle.std.specs.Map.{keys_of}
use Rattle.std.specs.Map.Iter.{deref_pair}
use Rattle.road_search.proofs.listed.Listed.others.Given as goal

-- the ids so far
abbrev pub invariant-loop-id : goal.invariant-loop-id
invariant-loop-id l = l.all.items ≡ keys_of (map deref_pair l.yielded)
