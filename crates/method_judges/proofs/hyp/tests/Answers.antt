use Rattle.std.proofs.Common.{◌≡◌, ℕ, Option, None, Some, IsSome, Err, List, refl, ap, sym, ◌∙◌, subst}
use Rattle.road_map.specs.Least.{IsLeast, lesser}
use Rattle.road_search.specs.Labelling.{length_at}
use Rattle.road_search.specs.Passing.{IsLeastPassing}
use Rattle.road_leaf.specs.declared.leaf.NodeLeaf.{NodeLeaf}
use Rattle.proof_judge.specs.declared.refusal.Refusal.TheVariants.{MissingTuple, Shorter}
use Rattle.proof_judge.specs.ItemWalks.{item_at, inner_ways}
use Rattle.proof_judge.specs.Judgement.{Verdict, PairTests, HypTests}
use Rattle.method_judges.proofs.BorderLaws.{hyp_tests}
use Rattle.proof_judge.proofs.Tested.{unless-map}
use Rattle.method_judges.proofs.hyp.tests.Goals as goal

abbrev Lengths : List NodeLeaf → ℕ → ℕ → (ℕ → Option ℕ) → Type 0
Lengths nodes from d len = (v : ℕ) → IsLeastPassing (inner_ways (item_at nodes)) from d v (len v)

abbrev Missing : List NodeLeaf → (ℕ → Option ℕ) → Option ℕ → Type 0
Missing nodes len m = IsLeast (λ v. IsSome (len v) × ((inner_ways (item_at nodes)).arcs v ≡ None)) m

pub pair_tests-requires-clause-near : goal.pair_tests-requires-clause-near
pair_tests-requires-clause-near c = subst (λ xs. Lengths xs c.args.query.from c.args.length (length_at c.in_ok-near.near)) c.requires c.in_ok-near.ensures.lengths

pub pair_tests-requires-clause-far : goal.pair_tests-requires-clause-far
pair_tests-requires-clause-far c = subst (λ xs. Lengths xs c.args.query.to c.args.length (length_at c.in_ok-far.far)) c.requires c.in_ok-far.ensures.lengths

pub returns-in-Some : goal.returns-in-Some
returns-in-Some c =
    let m : lesser c.in_ok-near.near.missing c.in_ok-far.far.missing ≡ Some c.in-Some.id = ap (λ x. lesser x c.in_ok-far.far.missing) (sym c.missing.ensures) ∙ (ap (λ x. lesser c.missing.result x) (sym c.missing-2.ensures) ∙ (sym c.lesser_of.ensures ∙ c.in-Some.is)) in
    hyp_tests c.args.items.now c.args.query c.args.length (length_at c.in_ok-near.near) (length_at c.in_ok-far.far) c.in_ok-near.near.missing c.in_ok-far.far.missing
    (subst (λ xs. Lengths xs c.args.query.from c.args.length (length_at c.in_ok-near.near)) c.requires c.in_ok-near.ensures.lengths)
    (subst (λ xs. Lengths xs c.args.query.to c.args.length (length_at c.in_ok-far.far)) c.requires c.in_ok-far.ensures.lengths)
    (subst (λ xs. Missing xs (length_at c.in_ok-near.near) c.in_ok-near.near.missing) c.requires c.in_ok-near.ensures.missing)
    (subst (λ xs. Missing xs (length_at c.in_ok-far.far) c.in_ok-far.far.missing) c.requires c.in_ok-far.ensures.missing)
    (Err (MissingTuple c.in-Some.id)) (rw m refl)

pub returns-in-Some-get : goal.returns-in-Some-get
returns-in-Some-get c =
    let m : lesser c.in_ok-near.near.missing c.in_ok-far.far.missing ≡ None = ap (λ x. lesser x c.in_ok-far.far.missing) (sym c.missing.ensures) ∙ (ap (λ x. lesser c.missing.result x) (sym c.missing-2.ensures) ∙ (sym c.lesser_of.ensures ∙ c.in_default.is)) in
    let g : length_at c.in_ok-near.near c.args.query.to ≡ Some c.in-Some-get.shorter = sym c.get.ensures ∙ c.in-Some-get.is in
    hyp_tests c.args.items.now c.args.query c.args.length (length_at c.in_ok-near.near) (length_at c.in_ok-far.far) c.in_ok-near.near.missing c.in_ok-far.far.missing
    (subst (λ xs. Lengths xs c.args.query.from c.args.length (length_at c.in_ok-near.near)) c.requires c.in_ok-near.ensures.lengths)
    (subst (λ xs. Lengths xs c.args.query.to c.args.length (length_at c.in_ok-far.far)) c.requires c.in_ok-far.ensures.lengths)
    (subst (λ xs. Missing xs (length_at c.in_ok-near.near) c.in_ok-near.near.missing) c.requires c.in_ok-near.ensures.missing)
    (subst (λ xs. Missing xs (length_at c.in_ok-far.far) c.in_ok-far.far.missing) c.requires c.in_ok-far.ensures.missing)
    (Err (Shorter c.in-Some-get.shorter)) (rw (m, g) refl)

pub returns : goal.returns
returns c =
    let m : lesser c.in_ok-near.near.missing c.in_ok-far.far.missing ≡ None = ap (λ x. lesser x c.in_ok-far.far.missing) (sym c.missing.ensures) ∙ (ap (λ x. lesser c.missing.result x) (sym c.missing-2.ensures) ∙ (sym c.lesser_of.ensures ∙ c.in_default.is)) in
    let g : length_at c.in_ok-near.near c.args.query.to ≡ None = sym c.get.ensures ∙ c.in_default-get.is in
    unless-map (PairTests c.args.items.now c.args.query c.args.length) (HypTests c.args.items.now c.args.query c.args.length) c.pair_tests.result
    (λ (v : Verdict) (h : PairTests c.args.items.now c.args.query c.args.length v).
    hyp_tests c.args.items.now c.args.query c.args.length (length_at c.in_ok-near.near) (length_at c.in_ok-far.far) c.in_ok-near.near.missing c.in_ok-far.far.missing
    (subst (λ xs. Lengths xs c.args.query.from c.args.length (length_at c.in_ok-near.near)) c.requires c.in_ok-near.ensures.lengths)
    (subst (λ xs. Lengths xs c.args.query.to c.args.length (length_at c.in_ok-far.far)) c.requires c.in_ok-far.ensures.lengths)
    (subst (λ xs. Missing xs (length_at c.in_ok-near.near) c.in_ok-near.near.missing) c.requires c.in_ok-near.ensures.missing)
    (subst (λ xs. Missing xs (length_at c.in_ok-far.far) c.in_ok-far.far.missing) c.requires c.in_ok-far.ensures.missing)
    v (rw (m, g) h)) c.pair_tests.ensures
