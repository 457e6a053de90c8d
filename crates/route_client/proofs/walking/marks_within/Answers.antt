use Rattle.std.proofs.Common.{List, ℕ, All, sym, subst}
use Rattle.std.specs.Prelude.{IsSome}
use Rattle.road_search.specs.Labelling.{length_at}
use Rattle.route_client.specs.Reached.{AreMarked}
use Rattle.route_client.proofs.MarkSteps.{all_labelled, all_marked}
use Rattle.route_client.proofs.walking.marks_within.Goals as goal

pub marks_of-requires : goal.marks_of-requires
marks_of-requires c =
    subst (λ (xs : List ℕ). All (λ id. IsSome (length_at c.args.labels.now id)) xs) (sym c.deref.ensures.value) (all_labelled c.args.labels.now c.args.most c.in_ok-ids.ids.items c.in_ok-ids.ensures)

pub returns : goal.returns
returns c =
    all_marked c.args.labels.now c.args.most c.in_ok-ids.ids.items c.in_ok-marks.marks c.in_ok-ids.ensures (subst (λ (xs : List ℕ). AreMarked c.args.labels.now xs c.in_ok-marks.marks) c.deref.ensures.value c.in_ok-marks.ensures)
