use Rattle.std.proofs.Common.{ℕ, ◌≡◌, take}
use Rattle.std.specs.Ordering.{nat_cmp}
use Rattle.std.specs.BTreeMap.{get}
use Rattle.road_search.specs.Labelling.{length_at}
use Rattle.method_judges.proofs.BorderLists.{border_among}
use Rattle.method_judges.proofs.borders.borders.Given as goal

abbrev pub invariant-loop-index : goal.invariant-loop-index
invariant-loop-index l = (q : ℕ) → get nat_cmp l.near q ≡ border_among l.nodes (take l.index l.nodes) (length_at l.labels) q
