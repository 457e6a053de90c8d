use Rattle.std.proofs.Common.{◌≡◌, ◌∙◌, ℕ, List, [], subst, ap}
use Rattle.road_map.specs.Walks.{ids}
use Rattle.road_search.specs.MarkLists.{MarkList}
use Rattle.road_search.specs.Pages.{paged}
use Rattle.road_map.specs.Places.{AreRising}
use Rattle.road_search.specs.Listing.{Listing, listed, listed_by}
use Rattle.road_search.proofs.NamingMarks.{are_named}
use Rattle.road_search.proofs.naming.by_ids.Goals as goal

parts : (l : Listing) (is : List ℕ) (ms : List MarkList) → l.ids ≡ is → l.marks ≡ ms → l.others ≡ [] → (id : ℕ) → listed l id ≡ listed_by is (paged ms) [] id
parts l is ms a b c id = ap (λ x. listed_by x (paged l.marks) l.others id) a ∙ (ap (λ x. listed_by is (paged x) l.others id) b ∙ ap (λ x. listed_by is (paged ms) x id) c)

pub returns : goal.returns
returns c = are_named c.args.map.now.order (paged c.args.marks.now.pages) (paged c.in_ok-named.named.pages) (listed c.of.result) (subst AreRising c.in_ok-ids.ensures.ids c.in_ok-ids.ensures.rise) c.in_ok-named.ensures (parts c.of.result (ids c.args.map.now.order) c.in_ok-named.named.pages (c.of.ensures.ids ∙ c.in_ok-ids.ensures.ids) c.of.ensures.marks c.of.ensures.others)
