use Rattle.std.proofs.Common.{ℕ, true, Some, List, sym, subst}
use Rattle.road_map.specs.Least.{IsLeast}
use Rattle.road_leaf.specs.declared.leaf.NodeLeaf.{NodeLeaf}
use Rattle.proof_judge.specs.ItemWalks.{StandsTwice, item_at, any_ways}
use Rattle.proof_judge.specs.SharedTests.{IsNarrow}
use Rattle.route_client.specs.NearVerdicts.{UnlessMemory}
use Rattle.route_client.specs.Reached.{Reached}
use Rattle.route_client.proofs.NearVerdictLaws.{measured_of, repeated_is}
use Rattle.route_client.proofs.walking.measured.Goals as goal

pub reached-requires : goal.reached-requires
reached-requires c = subst (λ (nodes : List NodeLeaf). IsNarrow (any_ways (item_at nodes))) (sym c.in-Ok.ensures.nodes) (c.are_narrow.ensures (λ _ _. true))

pub returns-in-Ok : goal.returns-in-Ok
returns-in-Ok c = measured_of c.args.nodes.now c.args.query c.reached.result c.in-Ok.ensures.distinct (subst (λ (nodes : List NodeLeaf). UnlessMemory (Reached nodes c.args.query) c.reached.result) c.in-Ok.ensures.nodes c.reached.ensures)

pub returns-in-Err-RepeatedNode : goal.returns-in-Err-RepeatedNode
returns-in-Err-RepeatedNode c =
    let found : IsLeast (StandsTwice c.args.nodes.now) (Some c.in-Err-RepeatedNode.id) =
    repeated_is c.args.nodes.now c.args.query c.in-Err-RepeatedNode.field-0 c.in-Err-RepeatedNode.id c.in-Err-RepeatedNode.field-0-is c.in-Err-RepeatedNode.ensures.fault in
    let Least : ℕ → Type 0 = λ n. IsLeast (StandsTwice c.args.nodes.now) (Some n) in
    subst Least (sym c.in-Err-RepeatedNode.id-is) found
