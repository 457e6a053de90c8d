use Rattle.std.proofs.Common.{◌≡◌, ℕ, ◌+◌, ◌*◌, Bool, None, take, arith, ap, sym, ◌∙◌}
use Rattle.std.specs.List.{filter}
use Rattle.road_search.specs.Listing.{is_near_at}
use Rattle.road_search.specs.Pages.{paged}
use Rattle.road_search.proofs.NearIds.{skipped}
use Rattle.road_search.proofs.PageLaws.{near_there, page_of, take_least}
use Rattle.road_search.proofs.nearby.near_ids.Goals as goal
use Rattle.road_search.proofs.nearby.near_ids.Goals.{then-has_room+in_ok-add_near, else-has_room}

pub loop-index-preserved : goal.loop-index-preserved
loop-index-preserved c =
    let xs = c.args.ids.now in
    let i = c.loop-index.index in
    let p : ℕ → Bool = is_near_at xs (paged c.args.marks.now.pages) c.args.most in
    let next : i * 64 + 64 ≡ (i + 1) * 64 = omega arith in
    elim c.if-has_room.branch [
      | then-has_room+in_ok-add_near w ↦ ap (λ v. v.items) w.near-is ∙ (w.in_ok-add_near.ensures ∙ (ap (filter p) (take_least xs (i * 64 + 64) w.page_end-end.result w.page_end-end.ensures.all) ∙ ap (λ k. filter p (take k xs)) next))
      | else-has_room w ↦ ap (λ v. v.items) w.near-is ∙ (c.loop-index.invariant ∙ (skipped p xs (i * 64) 64 (λ k low high within. near_there xs (paged c.args.marks.now.pages) c.args.most k None c.requires within (sym (c.has_room.ensures w.if-has_room.false k (page_of i k low high)))) ∙ ap (λ k. filter p (take k xs)) next))
    ]
