use Rattle.std.proofs.Common.{nat_eq, cond, Some, sym, ◌∙◌, ap}
use Rattle.road_search.specs.Pages.{paged}
use Rattle.road_search.specs.Listing.{listed}
use Rattle.road_map.specs.Places.{place_in}
use Rattle.road_search.proofs.ListingLaws.{placed_turn}
use Rattle.road_search.proofs.listed.ListedMarks.set.Goals as goal

pub returns-in_ok-put-in-Some : goal.returns-in_ok-put-in-Some
returns-in_ok-put-in-Some c = λ v.
    placed_turn c.self.inside.ids.value c.args.id c.in-Some.place c.args.new (paged c.self.inside.marks.pages) (paged c.put.new.self.pages) c.self.inside.others.entries
    (sym (c.in-Some.ensures ∙ ap (λ is. place_in is c.args.id) c.deref.ensures)) c.in_ok-put-in-Some.ensures v
    ∙ ap (λ l. cond (nat_eq c.args.id v) (Some c.args.new) (listed l v)) c.self.view_is
