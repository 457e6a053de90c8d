use Rattle.std.proofs.Common.{◌≡◌, ◌⊎◌, inl, inr, ℕ, List, None, Some, subst}
use Rattle.octet_text.specs.Want.{no_memory}
use Rattle.road_map.specs.Least.{IsLeast}
use Rattle.road_map.proofs.LeastLaws.{IsLeast-unique}
use Rattle.road_leaf.specs.declared.leaf.NodeLeaf.{NodeLeaf}
use Rattle.proof_judge.specs.ItemWalks.{StandsTwice}
use Rattle.proof_judge.specs.declared.refusal.Refusal.{Refusal}
use Rattle.proof_judge.specs.declared.refusal.Refusal.TheVariants as refusals
use Rattle.route_check_c.proofs.nodes.by_ids.Goals as goal

-- if no two leaves belong to the same node, the only error is out of memory
only_memory : (leaves : List NodeLeaf) (why : Refusal) → IsLeast (StandsTwice leaves) None
    → (why ≡ refusals.Memory no_memory) ⊎ ((id : ℕ) × (why ≡ refusals.RepeatedNode id) × IsLeast (StandsTwice leaves) (Some id)) → why ≡ refusals.Memory no_memory
only_memory leaves why apart (inl memory) = memory
only_memory leaves why apart (inr found) = absurd (let bad : Some found.0 ≡ None = IsLeast-unique (StandsTwice leaves) (Some found.0) None found.2 apart in cc)

pub want_of-requires : goal.want_of-requires
want_of-requires c = only_memory c.args.leaves.now c.in-Err.why c.requires c.in-Err.ensures.fault
