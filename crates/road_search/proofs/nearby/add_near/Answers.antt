use Rattle.std.proofs.Common.{◌≡◌, ◌<◌, ℕ, Bool, length, get_or, arith, ap, sym, ◌∙◌}
use Rattle.road_search.specs.Listing.{is_near_at}
use Rattle.road_search.specs.Pages.{paged}
use Rattle.road_search.proofs.NearIds.{passing_more, failing_more}
use Rattle.road_search.proofs.PageLaws.{near_there}
use Rattle.road_search.proofs.nearby.add_near.Goals as goal
use Rattle.road_search.proofs.nearby.add_near.Goals.{then-is_near+in_ok-push, else-is_near}

pub loop-place-preserved : goal.loop-place-preserved
loop-place-preserved c =
    let xs = c.args.ids.now in
    let k = c.loop-place.place in
    let p : ℕ → Bool = is_near_at xs (paged c.args.marks.now.pages) c.args.most in
    let lt : k < length xs = omega (arith, c.loop-place-test.true, c.requires.within) in
    let short : c.is_near.result ≡ p (get_or xs k 0) = c.is_near.ensures ∙ sym (near_there xs (paged c.args.marks.now.pages) c.args.most k c.at.result c.requires.rise lt c.at.ensures) in
    elim c.if-is_near.branch [
      | then-is_near+in_ok-push w ↦ passing_more p xs c.loop-place.near.items c.if-is_near.near.items k lt c.loop-place.invariant (sym short ∙ w.if-is_near.true) (ap (λ v. v.items) w.near-is ∙ w.in_ok-push.ensures.items)
      | else-is_near w ↦ ap (λ v. v.items) w.near-is ∙ failing_more p xs c.loop-place.near.items k lt c.loop-place.invariant (sym short ∙ w.if-is_near.false)
    ]
