use Rattle.std.proofs.Common.{None, Some, Err, List, ◌∙◌, subst}
use Rattle.road_search.specs.Labelling.{length_at}
use Rattle.road_leaf.specs.declared.pair.PairLeaf.{PairLeaf}
use Rattle.proof_judge.specs.Judgement.{PairTests, pair_fault}
use Rattle.proof_judge.proofs.Tested.{unless}
use Rattle.method_judges.specs.Scans.{IsScan}
use Rattle.method_judges.proofs.ScanLaws.{scan_tests}
use Rattle.method_judges.proofs.hyp.pair_tests.Goals as goal

pub returns-in-None : goal.returns-in-None
returns-in-None c =
    let s : IsScan (pair_fault c.args.items.now.pairs c.args.length) c.args.length c.args.items.now.nodes (length_at c.args.near.now) (length_at c.args.far.now) None =
    subst (IsScan (pair_fault c.args.items.now.pairs c.args.length) c.args.length c.args.items.now.nodes (length_at c.args.near.now) (length_at c.args.far.now)) c.in-None.is
    (subst (λ (ps : List PairLeaf). IsScan (pair_fault ps c.args.length) c.args.length c.args.items.now.nodes (length_at c.args.near.now) (length_at c.args.far.now) c.in_ok-fault.fault) (c.in_ok-pairs.ensures ∙ c.as_slice.ensures)
    c.in_ok-fault.ensures) in
    scan_tests c.args.items.now c.args.query c.args.length (length_at c.args.near.now) (length_at c.args.far.now) c.requires.near c.requires.far None s

pub returns : goal.returns
returns c =
    let s : IsScan (pair_fault c.args.items.now.pairs c.args.length) c.args.length c.args.items.now.nodes (length_at c.args.near.now) (length_at c.args.far.now) (Some c.in-Some.refusal) =
    subst (IsScan (pair_fault c.args.items.now.pairs c.args.length) c.args.length c.args.items.now.nodes (length_at c.args.near.now) (length_at c.args.far.now)) c.in-Some.is
    (subst (λ (ps : List PairLeaf). IsScan (pair_fault ps c.args.length) c.args.length c.args.items.now.nodes (length_at c.args.near.now) (length_at c.args.far.now) c.in_ok-fault.fault) (c.in_ok-pairs.ensures ∙ c.as_slice.ensures)
    c.in_ok-fault.ensures) in
    unless (PairTests c.args.items.now c.args.query c.args.length) (Err c.in-Some.refusal) (scan_tests c.args.items.now c.args.query c.args.length (length_at c.args.near.now) (length_at c.args.far.now) c.requires.near c.requires.far (Some c.in-Some.refusal) s)
