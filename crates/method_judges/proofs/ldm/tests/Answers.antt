use Rattle.std.proofs.Common.{◌≡◌, None, Some, Ok, Err, refl, ap, sym, ◌∙◌}
use Rattle.road_search.specs.Labelling.{length_at}
use Rattle.proof_judge.specs.declared.refusal.Refusal.TheVariants.{MissingTuple, Shorter}
use Rattle.method_judges.specs.Live.{below}
use Rattle.method_judges.proofs.LiveLaws.{live_tests}
use Rattle.method_judges.proofs.ldm.tests.Goals as goal

pub returns-in-Some : goal.returns-in-Some
returns-in-Some c =
    let m : c.in_ok-labels.labels.missing ≡ Some c.in-Some.id = sym c.missing.ensures ∙ c.in-Some.is in
    live_tests c.args.step c.args.by_id.now c.args.query c.args.length c.requires.short (length_at c.in_ok-labels.labels) c.in_ok-labels.labels.missing c.in_ok-labels.ensures.lengths c.in_ok-labels.ensures.missing (Err (MissingTuple c.in-Some.id)) (rw m refl)

pub returns-in-None : goal.returns-in-None
returns-in-None c =
    let m : c.in_ok-labels.labels.missing ≡ None = sym c.missing.ensures ∙ c.in_default.is in
    let g : below (length_at c.in_ok-labels.labels c.args.query.to) c.args.length ≡ None = ap (λ x. below x c.args.length) (sym c.get.ensures) ∙ (sym c.below.ensures ∙ c.in-None.is) in
    live_tests c.args.step c.args.by_id.now c.args.query c.args.length c.requires.short (length_at c.in_ok-labels.labels) c.in_ok-labels.labels.missing c.in_ok-labels.ensures.lengths c.in_ok-labels.ensures.missing (Ok c.args.length) (rw (m, g) refl)

pub returns : goal.returns
returns c =
    let m : c.in_ok-labels.labels.missing ≡ None = sym c.missing.ensures ∙ c.in_default.is in
    let g : below (length_at c.in_ok-labels.labels c.args.query.to) c.args.length ≡ Some c.in-Some-below.shorter = ap (λ x. below x c.args.length) (sym c.get.ensures) ∙ (sym c.below.ensures ∙ c.in-Some-below.is) in
    live_tests c.args.step c.args.by_id.now c.args.query c.args.length c.requires.short (length_at c.in_ok-labels.labels) c.in_ok-labels.labels.missing c.in_ok-labels.ensures.lengths c.in_ok-labels.ensures.missing (Err (Shorter c.in-Some-below.shorter)) (rw (m, g) refl)
