use Rattle.std.proofs.Common.{◌≡◌, ◌∙◌, ℕ, List, [], ap, sym, subst}
use Rattle.road_map.specs.Places.{AreRising}
use Rattle.road_map.specs.Walks.{ids}
use Rattle.road_search.specs.Labelling.{length_in}
use Rattle.road_search.specs.Listing.{Listing, listed, listed_by}
use Rattle.road_search.specs.MarkLists.{MarkList}
use Rattle.road_search.specs.Pages.{paged}
use Rattle.road_search.specs.Passing.{IsLeastPassing}
use Rattle.road_search.proofs.GatedLaws.{gated_lengths}
use Rattle.road_search.proofs.gated.lengths_through.Goals as goal

parts : (l : Listing) (is : List ℕ) (ms : List MarkList) → l.ids ≡ is → l.marks ≡ ms → l.others ≡ [] → (id : ℕ) → listed l id ≡ listed_by is (paged ms) [] id
parts l is ms a b c id = ap (λ x. listed_by x (paged l.marks) l.others id) a ∙ (ap (λ x. listed_by is (paged x) l.others id) b ∙ ap (λ x. listed_by is (paged ms) x id) c)

pub returns : goal.returns
returns g c = λ w gated v.
    let map = c.args.map.now in
    subst (λ l. IsLeastPassing w c.args.from c.args.limit v (length_in (listed l) v)) (sym c.new.ensures.labels)
    (gated_lengths map.parts map.order c.net-net.result.now c.parts-parts.ensures.is_map c.parts-parts.ensures.by_id c.net-net.ensures (g.G.Gate.lets c.args.gate.now) w gated (paged c.search_in.new.marks.pages) (listed c.of.result) c.args.from c.place-start.result c.args.limit
    (subst AreRising c.in_ok-ids.ensures.ids c.in_ok-ids.ensures.rise)
    (parts c.of.result (ids map.order) c.search_in.new.marks.pages (c.of.ensures.ids ∙ c.in_ok-ids.ensures.ids) c.of.ensures.marks c.of.ensures.others)
    c.place-start.ensures.place c.in_ok-_lacking.ensures.lengths v)
