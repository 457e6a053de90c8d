use Rattle.std.proofs.Common.{Bool, get_or, ◌≡◌, ℕ, take, nat_eq, sym, ◌∙◌, ap, subst, arith}
use Rattle.std.specs.List.{IsDistinct, Contains, filter}
use Rattle.std.proofs.lemmas.List.{take_all}
use Rattle.std.specs.Option.{option_map}
use Rattle.road_search.specs.declared.label.Label.{Label}
use Rattle.road_search.specs.declared.marks.Mark.{Mark}
use Rattle.road_search.specs.Listing.{Listing}
use Rattle.road_search.specs.Nearness.{is_within}
use Rattle.road_search.specs.Labelling.{length_in}
use Rattle.road_search.specs.Marking.{mark_at}
use Rattle.road_search.proofs.NearIds.{passing_more, failing_more, filter_distinct, passes, keeps, near_some}
use Rattle.road_search.proofs.listed.Listed.others_near.Goals as goal
use Rattle.road_search.proofs.listed.Listed.others_near.Goals.{then-is_near+in_ok-push, else-is_near}

pub loop-id-preserved : goal.loop-id-preserved
loop-id-preserved c =
    let p : ℕ → Bool = λ v. is_within c.args.most (length_in (mark_at c.args.self.now.others) v) in
    let short : c.is_near.result ≡ p (get_or c.deref-id-items.result.now c.loop-id.id-index 0) = c.is_near.ensures ∙ ap (λ o. is_within c.args.most (option_map (λ (l : Label). l.length) (option_map (λ (m : Mark). m.label) o))) (c.other_mark.ensures ∙ ap (λ (l : Listing). mark_at l.others (get_or c.deref-id-items.result.now c.loop-id.id-index 0)) c.self.view_is) in
    elim c.if-is_near.branch [
      | then-is_near+in_ok-push w ↦ passing_more p c.deref-id-items.result.now c.loop-id.near.items c.if-is_near.near.items c.loop-id.id-index c.loop-id-test.true c.loop-id.invariant (sym short ∙ w.if-is_near.true) (ap (λ v. v.items) w.near-is ∙ w.in_ok-push.ensures.items)
      | else-is_near w ↦ ap (λ v. v.items) w.near-is ∙ failing_more p c.deref-id-items.result.now c.loop-id.near.items c.loop-id.id-index c.loop-id-test.true c.loop-id.invariant (sym short ∙ w.if-is_near.false)
    ]

pub returns-clause-distinct : goal.returns-clause-distinct
returns-clause-distinct c =
    let whole : c.loop-id.near.items ≡ filter (λ v. is_within c.args.most (length_in (mark_at c.args.self.now.others) v)) c.in_ok-all.all.items = c.loop-id.invariant ∙ ap (filter (λ v. is_within c.args.most (length_in (mark_at c.args.self.now.others) v))) (ap (take c.loop-id.id-index) c.deref-id-items.ensures.value ∙ take_all c.loop-id.id-index c.in_ok-all.all.items (omega arith)) in
    subst (IsDistinct nat_eq) (sym whole) (filter_distinct (λ v. is_within c.args.most (length_in (mark_at c.args.self.now.others) v)) c.in_ok-all.all.items c.in_ok-all.ensures.distinct)

pub returns-clause-same : goal.returns-clause-same
returns-clause-same c = λ id.
    let whole : c.loop-id.near.items ≡ filter (λ v. is_within c.args.most (length_in (mark_at c.args.self.now.others) v)) c.in_ok-all.all.items = c.loop-id.invariant ∙ ap (filter (λ v. is_within c.args.most (length_in (mark_at c.args.self.now.others) v))) (ap (take c.loop-id.id-index) c.deref-id-items.ensures.value ∙ take_all c.loop-id.id-index c.in_ok-all.all.items (omega arith)) in (
      λ there. passes (λ v. is_within c.args.most (length_in (mark_at c.args.self.now.others) v)) c.in_ok-all.all.items id (subst (λ xs. Contains xs id) whole there),
      λ short. subst (λ xs. Contains xs id) (sym whole) (keeps (λ v. is_within c.args.most (length_in (mark_at c.args.self.now.others) v)) c.in_ok-all.all.items id (c.in_ok-all.ensures.all id (near_some c.args.most (mark_at c.args.self.now.others id) short)) short),
    )
