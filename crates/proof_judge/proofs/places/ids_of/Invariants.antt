use Rattle.std.proofs.Common.{◌≡◌, map, take}
use Rattle.road_leaf.specs.declared.leaf.NodeLeaf.{NodeLeaf}
use Rattle.proof_judge.proofs.places.ids_of.Given as goal

-- the ids so far
abbrev pub invariant-loop-index : goal.invariant-loop-index
invariant-loop-index l = l.ids.items ≡ map (λ (n : NodeLeaf). n.id) (take l.index l.nodes)
