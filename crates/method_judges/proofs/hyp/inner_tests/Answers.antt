use Rattle.std.proofs.Common.{◌≡◌, ℕ, ◌≤◌, ◌*◌, not, Option, None, Some, IsSome, Err, List, length, refl, arith, ap, sym, ◌∙◌, subst}
use Rattle.road_map.specs.Least.{IsLeast, lesser}
use Rattle.road_search.specs.Labelling.{length_at}
use Rattle.road_leaf.specs.declared.leaf.NodeLeaf.{NodeLeaf}
use Rattle.proof_judge.specs.declared.refusal.Refusal.TheVariants.{MissingTuple, Shorter}
use Rattle.proof_judge.specs.ItemWalks.{item_at, inner_ways, marks}
use Rattle.proof_judge.specs.Apart.{ApartVerdict, Leads, BorderTests, InnerTests}
use Rattle.proof_judge.specs.SharedTests.{HasAtMost}
use Rattle.proof_judge.proofs.LowWalks.{items_at_most}
use Rattle.proof_judge.proofs.Tested.{unless-map}
use Rattle.method_judges.specs.Scans.{AreInner}
use Rattle.method_judges.proofs.BorderLaws.{inner_tests}
use Rattle.method_judges.proofs.hyp.inner_tests.Goals as goal

abbrev Missing : List NodeLeaf → (ℕ → Option ℕ) → Option ℕ → Type 0
Missing nodes len m = IsLeast (λ v. IsSome (len v) × ((inner_ways (item_at nodes)).arcs v ≡ None)) m

abbrev Lows : List NodeLeaf → (ℕ → Option ℕ) → Type 0
Lows nodes len = (most : ℕ) → HasAtMost most (inner_ways (item_at nodes)) → (v d : ℕ) → len v ≡ Some d → d ≤ most * 4294967295

-- lengths over few items are small
are_inner : (nodes : List NodeLeaf) (from : ℕ) (len : ℕ → Option ℕ) → length nodes ≤ 65536 → ((v : ℕ) → IsLeast (Leads (inner_ways (item_at nodes)) from v) (len v)) → Lows nodes len → AreInner nodes from len
are_inner nodes from len few least low = record {
  least = least;
  low = λ v d is. omega (arith, low 65536 (items_at_most nodes 65536 few (λ id _. not (marks (item_at nodes id)))) v d is);
}

pub border_tests-requires-clause-near : goal.border_tests-requires-clause-near
border_tests-requires-clause-near c = subst (λ xs. AreInner xs c.args.query.from (length_at c.in_ok-near.near)) c.requires.same
    (are_inner c.args.by_id.now c.args.query.from (length_at c.in_ok-near.near) c.requires.few c.in_ok-near.ensures.lengths c.in_ok-near.ensures.low)

pub border_tests-requires-clause-far : goal.border_tests-requires-clause-far
border_tests-requires-clause-far c = subst (λ xs. AreInner xs c.args.query.to (length_at c.in_ok-far.far)) c.requires.same
    (are_inner c.args.by_id.now c.args.query.to (length_at c.in_ok-far.far) c.requires.few c.in_ok-far.ensures.lengths c.in_ok-far.ensures.low)

pub returns-in-Some : goal.returns-in-Some
returns-in-Some c =
    let m : lesser c.in_ok-near.near.missing c.in_ok-far.far.missing ≡ Some c.in-Some.id = ap (λ x. lesser x c.in_ok-far.far.missing) (sym c.missing.ensures) ∙ (ap (λ x. lesser c.missing.result x) (sym c.missing-2.ensures) ∙ (sym c.lesser_of.ensures ∙ c.in-Some.is)) in
    inner_tests c.args.items.now c.args.query c.args.by_id.now c.requires.same (length_at c.in_ok-near.near) (length_at c.in_ok-far.far) c.in_ok-near.near.missing c.in_ok-far.far.missing c.in_ok-near.ensures.lengths c.in_ok-far.ensures.lengths c.in_ok-near.ensures.missing c.in_ok-far.ensures.missing
    (Err (MissingTuple c.in-Some.id)) (rw m refl)

pub returns-in-Some-get : goal.returns-in-Some-get
returns-in-Some-get c =
    let m : lesser c.in_ok-near.near.missing c.in_ok-far.far.missing ≡ None = ap (λ x. lesser x c.in_ok-far.far.missing) (sym c.missing.ensures) ∙ (ap (λ x. lesser c.missing.result x) (sym c.missing-2.ensures) ∙ (sym c.lesser_of.ensures ∙ c.in_default.is)) in
    let l : length_at c.in_ok-near.near c.args.query.to ≡ Some c.in-Some-get.length = sym c.get.ensures ∙ c.in-Some-get.is in
    inner_tests c.args.items.now c.args.query c.args.by_id.now c.requires.same (length_at c.in_ok-near.near) (length_at c.in_ok-far.far) c.in_ok-near.near.missing c.in_ok-far.far.missing c.in_ok-near.ensures.lengths c.in_ok-far.ensures.lengths c.in_ok-near.ensures.missing c.in_ok-far.ensures.missing
    (Err (Shorter c.in-Some-get.length)) (rw (m, l) refl)

pub returns : goal.returns
returns c =
    let m : lesser c.in_ok-near.near.missing c.in_ok-far.far.missing ≡ None = ap (λ x. lesser x c.in_ok-far.far.missing) (sym c.missing.ensures) ∙ (ap (λ x. lesser c.missing.result x) (sym c.missing-2.ensures) ∙ (sym c.lesser_of.ensures ∙ c.in_default.is)) in
    let l : length_at c.in_ok-near.near c.args.query.to ≡ None = sym c.get.ensures ∙ c.in_default-get.is in
    unless-map (BorderTests c.args.items.now c.args.query) (InnerTests c.args.items.now c.args.query) c.border_tests.result
    (λ (v : ApartVerdict) (h : BorderTests c.args.items.now c.args.query v).
    inner_tests c.args.items.now c.args.query c.args.by_id.now c.requires.same (length_at c.in_ok-near.near) (length_at c.in_ok-far.far) c.in_ok-near.near.missing c.in_ok-far.far.missing c.in_ok-near.ensures.lengths c.in_ok-far.ensures.lengths c.in_ok-near.ensures.missing c.in_ok-far.ensures.missing
    v (rw (m, l) h)) c.border_tests.ensures
