use Rattle.std.proofs.Common.{None, Some, Err, List, ◌∙◌, subst}
use Rattle.road_search.specs.Labelling.{length_at}
use Rattle.road_leaf.specs.declared.pair.PairLeaf.{PairLeaf}
use Rattle.proof_judge.specs.Apart.{joined_fault, BorderTests}
use Rattle.proof_judge.proofs.Tested.{unless}
use Rattle.method_judges.specs.Scans.{IsScan}
use Rattle.method_judges.proofs.ScanLaws.{border_tests}
use Rattle.method_judges.proofs.hyp.border_tests.Goals as goal

pub returns-in-None : goal.returns-in-None
returns-in-None c =
    let near = length_at c.args.near.now in
    let far = length_at c.args.far.now in
    let s : IsScan (joined_fault c.args.items.now.pairs) 18446744073709551615 c.args.items.now.nodes near far None =
    subst (IsScan (joined_fault c.args.items.now.pairs) 18446744073709551615 c.args.items.now.nodes near far) c.in-None.is
    (subst (λ (ps : List PairLeaf). IsScan (joined_fault ps) 18446744073709551615 c.args.items.now.nodes near far c.in_ok-fault.fault) (c.in_ok-pairs.ensures ∙ c.as_slice.ensures)
    c.in_ok-fault.ensures) in
    border_tests c.args.items.now c.args.query near far c.requires.near.least c.requires.far.least c.requires.near.low c.requires.far.low None s

pub returns : goal.returns
returns c =
    let near = length_at c.args.near.now in
    let far = length_at c.args.far.now in
    let s : IsScan (joined_fault c.args.items.now.pairs) 18446744073709551615 c.args.items.now.nodes near far (Some c.in-Some.refusal) =
    subst (IsScan (joined_fault c.args.items.now.pairs) 18446744073709551615 c.args.items.now.nodes near far) c.in-Some.is
    (subst (λ (ps : List PairLeaf). IsScan (joined_fault ps) 18446744073709551615 c.args.items.now.nodes near far c.in_ok-fault.fault) (c.in_ok-pairs.ensures ∙ c.as_slice.ensures)
    c.in_ok-fault.ensures) in
    unless (BorderTests c.args.items.now c.args.query) (Err c.in-Some.refusal)
    (border_tests c.args.items.now c.args.query near far c.requires.near.least c.requires.far.least c.requires.near.low c.requires.far.low (Some c.in-Some.refusal) s)
