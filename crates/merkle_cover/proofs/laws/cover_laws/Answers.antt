use Rattle.merkle_cover.proofs.FoldLemmas.{first_fault-rising}
use Rattle.merkle_cover.proofs.TreeLemmas.{fold_of-tree}
use Rattle.merkle_cover.proofs.CountLemmas.{length-cover_of, sizes-cover_of, size-root}
use Rattle.merkle_cover.proofs.laws.cover_laws.Goals as goal

pub returns-clause-folds : goal.returns-clause-folds
returns-clause-folds c = λ hash texts fan places some rising.
    fold_of-tree hash texts fan places some (first_fault-rising _ places rising)

pub returns-clause-few : goal.returns-clause-few
returns-clause-few c = length-cover_of

pub returns-clause-sizes : goal.returns-clause-sizes
returns-clause-sizes c = sizes-cover_of

pub returns-clause-root : goal.returns-clause-root
returns-clause-root c = size-root
