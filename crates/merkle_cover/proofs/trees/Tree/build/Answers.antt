use Rattle.std.proofs.Common.{ap, ◌∙◌}
use Rattle.merkle_cover.specs.Trees.{Levels}
use Rattle.merkle_cover.proofs.LevelLemmas.{fan-tree_of}
use Rattle.merkle_cover.proofs.trees.Tree.build.Goals as goal

pub returns-in-Ok-clause-fan : goal.returns-in-Ok-clause-fan
returns-in-Ok-clause-fan g c = ap (λ (t : Levels). t.fan) c.in-Ok.ensures ∙ fan-tree_of g.H.Hasher.hash c.args.leaves.now c.args.fan
