use Rattle.std.proofs.Common.{◌≡◌, None, Some, Ok, Err, refl, sym, ◌∙◌}
use Rattle.road_search.specs.Labelling.{length_at}
use Rattle.proof_judge.specs.declared.refusal.Refusal.TheVariants.{MissingTuple, Shorter}
use Rattle.proof_judge.specs.ItemWalks.{item_at, any_ways}
use Rattle.proof_judge.specs.Judgement.{Good}
use Rattle.proof_judge.proofs.Tested.{search_tests}
use Rattle.method_judges.proofs.dij.tests.Goals as goal

pub returns-in-Some : goal.returns-in-Some
returns-in-Some c =
    let m : c.in_ok-labels.labels.missing ≡ Some c.in-Some.id = sym c.missing.ensures ∙ c.in-Some.is in
    search_tests (any_ways (item_at c.args.by_id.now)) c.args.query.from c.args.length c.args.query.to (length_at c.in_ok-labels.labels) c.in_ok-labels.labels.missing c.in_ok-labels.ensures.lengths c.in_ok-labels.ensures.missing (Good c.args.length) (Err (MissingTuple c.in-Some.id)) (rw m refl)

pub returns-in-None : goal.returns-in-None
returns-in-None c =
    let m : c.in_ok-labels.labels.missing ≡ None = sym c.missing.ensures ∙ c.in_default.is in
    let g : length_at c.in_ok-labels.labels c.args.query.to ≡ None = sym c.get.ensures ∙ c.in-None.is in
    search_tests (any_ways (item_at c.args.by_id.now)) c.args.query.from c.args.length c.args.query.to (length_at c.in_ok-labels.labels) c.in_ok-labels.labels.missing c.in_ok-labels.ensures.lengths c.in_ok-labels.ensures.missing (Good c.args.length) (Ok c.args.length) (rw (m, g) refl)

pub returns : goal.returns
returns c =
    let m : c.in_ok-labels.labels.missing ≡ None = sym c.missing.ensures ∙ c.in_default.is in
    let g : length_at c.in_ok-labels.labels c.args.query.to ≡ Some c.in-Some-get.shorter = sym c.get.ensures ∙ c.in-Some-get.is in
    search_tests (any_ways (item_at c.args.by_id.now)) c.args.query.from c.args.length c.args.query.to (length_at c.in_ok-labels.labels) c.in_ok-labels.labels.missing c.in_ok-labels.ensures.lengths c.in_ok-labels.ensures.missing (Good c.args.length) (Err (Shorter c.in-Some-get.shorter)) (rw (m, g) refl)
