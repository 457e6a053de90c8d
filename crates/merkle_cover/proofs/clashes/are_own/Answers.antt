use Rattle.std.proofs.Common.{ap, ◌∙◌, sym, subst}
use Rattle.merkle_cover.specs.Covers.{IsRising}
use Rattle.merkle_cover.specs.Trees.{Levels, leaf_count}
use Rattle.merkle_cover.proofs.TreeLemmas.{leaf_count-tree_of}
use Rattle.merkle_cover.proofs.clashes.are_own.Goals as goal

pub cover-requires : goal.cover-requires
cover-requires g c =
    subst (λ n. IsRising n c.args.places.now) (sym (ap (λ (t : Levels). leaf_count t) c.requires.built ∙ leaf_count-tree_of g.H.Hasher.hash c.args.leaves.now c.args.tree.now.fan)) c.requires.places
