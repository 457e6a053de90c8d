use Rattle.std.proofs.Common.{◌≡◌, None, Some, Ok, Err, refl, sym, ◌∙◌}
use Rattle.road_search.specs.Labelling.{length_at}
use Rattle.proof_judge.specs.declared.refusal.Refusal.TheVariants.{MissingTuple, Shorter}
use Rattle.proof_judge.proofs.AllWalks.{all_tests}
use Rattle.proof_judge.proofs.apart.walk_tests.Goals as goal

pub returns-in-Some : goal.returns-in-Some
returns-in-Some g c =
    let m : c.in_ok-labels.labels.missing ≡ Some c.in-Some.id = sym c.missing.ensures ∙ c.in-Some.is in
    all_tests (g.G.Ground.ways c.args.ground.now) c.args.query (length_at c.in_ok-labels.labels) c.in_ok-labels.labels.missing c.in_ok-labels.ensures.lengths c.in_ok-labels.ensures.missing (Err (MissingTuple c.in-Some.id)) (rw m refl)

pub returns-in-None : goal.returns-in-None
returns-in-None g c =
    let m : c.in_ok-labels.labels.missing ≡ None = sym c.missing.ensures ∙ c.in_default.is in
    let e : length_at c.in_ok-labels.labels c.args.query.to ≡ None = sym c.get.ensures ∙ c.in-None.is in
    all_tests (g.G.Ground.ways c.args.ground.now) c.args.query (length_at c.in_ok-labels.labels) c.in_ok-labels.labels.missing c.in_ok-labels.ensures.lengths c.in_ok-labels.ensures.missing (Ok tt) (rw (m, e) refl)

pub returns : goal.returns
returns g c =
    let m : c.in_ok-labels.labels.missing ≡ None = sym c.missing.ensures ∙ c.in_default.is in
    let e : length_at c.in_ok-labels.labels c.args.query.to ≡ Some c.in-Some-get.length = sym c.get.ensures ∙ c.in-Some-get.is in
    all_tests (g.G.Ground.ways c.args.ground.now) c.args.query (length_at c.in_ok-labels.labels) c.in_ok-labels.labels.missing c.in_ok-labels.ensures.lengths c.in_ok-labels.ensures.missing (Err (Shorter c.in-Some-get.length)) (rw (m, e) refl)
