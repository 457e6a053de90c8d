use Rattle.std.proofs.Common.{◌≡◌, ℕ, List, ◌++◌, nat_eq, true, sym, ◌∙◌, ap, subst}
use Rattle.std.specs.List.{IsDistinct, Contains, filter}
use Rattle.std.specs.Option.{option_map}
use Rattle.road_search.specs.declared.label.Label.{Label}
use Rattle.road_search.specs.declared.marks.Mark.{Mark}
use Rattle.road_search.specs.Listing.{Listing, listed, listed_by, is_near_at}
use Rattle.road_search.specs.Marking.{mark_at}
use Rattle.road_search.specs.Nearness.{is_within}
use Rattle.road_search.specs.Pages.{paged}
use Rattle.road_search.proofs.NearBoth.{both_distinct, both_same}
use Rattle.road_search.proofs.listed.Listed.near.Goals as goal

pub returns-clause-distinct : goal.returns-clause-distinct
returns-clause-distinct c =
    let ids : List ℕ = c.self.inside.ids.value in
    let placed : c.in_ok-near.near.items ≡ filter (is_near_at ids (paged c.self.inside.marks.pages) c.args.most) ids = c.in_ok-near.ensures ∙ ap (λ xs. filter (is_near_at xs (paged c.self.inside.marks.pages) c.args.most) xs) (c.as_slice.ensures ∙ c.deref.ensures) in
    let whole : c.extend.new.list.items ≡ filter (is_near_at ids (paged c.self.inside.marks.pages) c.args.most) ids ++ c.in_ok-others.others.items = c.in_ok-extend.ensures.items ∙ (ap (λ xs. xs ++ c.as_slice-2.result.now) placed ∙ ap (λ ys. filter (is_near_at ids (paged c.self.inside.marks.pages) c.args.most) ids ++ ys) c.as_slice-2.ensures.value) in
    subst (IsDistinct nat_eq) (sym whole) (both_distinct ids (paged c.self.inside.marks.pages) c.self.inside.others.entries c.args.most c.in_ok-others.others.items c.self.invariant (subst (λ (l : Listing). (id : ℕ) → (Contains c.in_ok-others.others.items id → is_within c.args.most (option_map (λ (m : Label). m.length) (option_map (λ (m : Mark). m.label) (mark_at l.others id))) ≡ true) × (is_within c.args.most (option_map (λ (m : Label). m.length) (option_map (λ (m : Mark). m.label) (mark_at l.others id))) ≡ true → Contains c.in_ok-others.others.items id)) (sym c.self.view_is) c.in_ok-others.ensures.same) c.in_ok-others.ensures.distinct)

pub returns-clause-same : goal.returns-clause-same
returns-clause-same c =
    let ids : List ℕ = c.self.inside.ids.value in
    let placed : c.in_ok-near.near.items ≡ filter (is_near_at ids (paged c.self.inside.marks.pages) c.args.most) ids = c.in_ok-near.ensures ∙ ap (λ xs. filter (is_near_at xs (paged c.self.inside.marks.pages) c.args.most) xs) (c.as_slice.ensures ∙ c.deref.ensures) in
    let whole : c.extend.new.list.items ≡ filter (is_near_at ids (paged c.self.inside.marks.pages) c.args.most) ids ++ c.in_ok-others.others.items = c.in_ok-extend.ensures.items ∙ (ap (λ xs. xs ++ c.as_slice-2.result.now) placed ∙ ap (λ ys. filter (is_near_at ids (paged c.self.inside.marks.pages) c.args.most) ids ++ ys) c.as_slice-2.ensures.value) in
    subst (λ (l : Listing). (id : ℕ) → (Contains c.extend.new.list.items id → is_within c.args.most (option_map (λ (m : Label). m.length) (option_map (λ (m : Mark). m.label) (listed l id))) ≡ true) × (is_within c.args.most (option_map (λ (m : Label). m.length) (option_map (λ (m : Mark). m.label) (listed l id))) ≡ true → Contains c.extend.new.list.items id)) c.self.view_is
    (subst (λ xs. (id : ℕ) → (Contains xs id → is_within c.args.most (option_map (λ (m : Label). m.length) (option_map (λ (m : Mark). m.label) (listed_by ids (paged c.self.inside.marks.pages) c.self.inside.others.entries id))) ≡ true) × (is_within c.args.most (option_map (λ (m : Label). m.length) (option_map (λ (m : Mark). m.label) (listed_by ids (paged c.self.inside.marks.pages) c.self.inside.others.entries id))) ≡ true → Contains xs id)) (sym whole)
    (both_same ids (paged c.self.inside.marks.pages) c.self.inside.others.entries c.args.most c.in_ok-others.others.items c.self.invariant (subst (λ (l : Listing). (id : ℕ) → (Contains c.in_ok-others.others.items id → is_within c.args.most (option_map (λ (m : Label). m.length) (option_map (λ (m : Mark). m.label) (mark_at l.others id))) ≡ true) × (is_within c.args.most (option_map (λ (m : Label). m.length) (option_map (λ (m : Mark). m.label) (mark_at l.others id))) ≡ true → Contains c.in_ok-others.others.items id)) (sym c.self.view_is) c.in_ok-others.ensures.same)))
