use Rattle.std.proofs.Common.{◌≡◌, ◌++◌, Option, List, ℕ, length, ap, sym, subst, ◌∙◌}
use Rattle.std.specs.List.{Contains}
use Rattle.std.specs.Option.{option_to_list}
use Rattle.std.proofs.lemmas.List.{length-map}
use Rattle.road_map.specs.Walks.{distance, ids}
use Rattle.book_model.specs.Landmarks.{nearest, farthest}
use Rattle.book_model.proofs.ById.{sorted_from}
use Rattle.landmarks.specs.Rows.{row_of}
use Rattle.landmarks.proofs.PickLaws.{row_more, rows_more}
use Rattle.landmarks.proofs.picking.pick_next.Goals as goal
use Rattle.landmarks.proofs.picking.pick_next.Goals.{After-as_slice-3}

pub lengths_from-requires-clause-known : goal.lengths_from-requires-clause-known
lengths_from-requires-clause-known c = sorted_from (ids c.args.map.now.parts.nodes) c.in-Some.id (subst (λ (l : List ℕ). Contains l c.in-Some.id) c.requires.ids c.in-Some.ensures.known)

-- the row of the landmark that was picked
row : (c : After-as_slice-3) → c.as_slice-3.result.now ≡ row_of (distance c.args.map.now.parts) c.args.ids.now c.in-Some.id
row c = c.as_slice-3.ensures ∙ (c.in_ok-row.ensures.row ∙ ap (λ (l : List ℕ). row_of (distance c.args.map.now.parts) l c.in-Some.id) (sym c.requires.ids))

pub returns-clause-near : goal.returns-clause-near
returns-clause-near c =
    row_more (distance c.args.map.now.parts) c.args.picked.now.chosen.items c.push.new.list.items c.args.ids.now c.in-Some.id c.as_slice-2.result.now c.as_slice-3.result.now c.in_ok-picked.field-0
    c.in_ok-push.ensures.items (c.as_slice-2.ensures ∙ c.requires.near) (row (goal.at.returns-clause-near c).After-as_slice-3) c.in_ok-picked.ensures

pub next-requires : goal.next-requires
next-requires c = ap (λ (l : List (Option ℕ)). length l) (c.as_slice.ensures ∙ c.requires.near) ∙ length-map c.args.ids.now _

pub nearer-requires : goal.nearer-requires
nearer-requires c = ap (λ (l : List (Option ℕ)). length l) (c.as_slice-2.ensures ∙ c.requires.near) ∙ length-map c.args.ids.now _ ∙ sym (ap (λ (l : List (Option ℕ)). length l) (row c) ∙ length-map c.args.ids.now _)

pub returns-clause-chosen : goal.returns-clause-chosen
returns-clause-chosen c =
    let near = nearest (distance c.args.map.now.parts) c.args.picked.now.chosen.items in
    c.in_ok-push.ensures.items
    ∙ ap (λ (o : Option ℕ). c.args.picked.now.chosen.items ++ option_to_list o)
    (c.in-Some.ensures.farthest near (c.as_slice.ensures ∙ c.requires.near) ∙ ap (λ (l : List ℕ). farthest near l c.args.ids.now) c.deref.ensures.value)

pub returns-clause-rows : goal.returns-clause-rows
returns-clause-rows c =
    rows_more (distance c.args.map.now.parts) c.args.picked.now.chosen.items c.push.new.list.items c.args.ids.now c.in-Some.id c.in_ok-row.row c.args.picked.now.rows.items c.push-2.new.list.items c.in_ok-push.ensures.items c.requires.rows
    (c.in_ok-row.ensures.row ∙ ap (λ (l : List ℕ). row_of (distance c.args.map.now.parts) l c.in-Some.id) (sym c.requires.ids)) c.in_ok-push-2.ensures.items
