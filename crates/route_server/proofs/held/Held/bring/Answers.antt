use Rattle.std.proofs.Common.{◌≡◌, All, length, ap, sym, subst}
use Rattle.std.proofs.lemmas.Result.{IfOk-weaker}
use Rattle.road_map.specs.Walks.{Knows}
use Rattle.road_map.specs.Maps.{Charted}
use Rattle.merkle_cover.specs.Covers.{IsRising}
use Rattle.method_books.specs.AnyBooks.{kind_in, shown_in, charted_in}
use Rattle.route_server.specs.declared.bringing.PlacesBrought.{PlacesBrought}
use Rattle.route_server.specs.Bringing.{ArePlaces, AreBrought}
use Rattle.route_server.specs.Keeping.{Kept, HasPlaces, kept_as}
use Rattle.route_server.proofs.HeldLaws.{is_kept, texts_whole}
use Rattle.route_server.proofs.AtLemmas.{are_brought}
use Rattle.route_server.proofs.held.Held.bring.Given.{Over}
use Rattle.route_server.proofs.held.Held.bring.Goals as goal
use Rattle.route_server.proofs.held.Held.bring.Goals.{In_ok-places}

pub places_of-requires-clause-known : goal.places_of-requires-clause-known
places_of-requires-clause-known g c =
    subst (λ (m : Charted). All (Knows m.parts) c.args.ids.now) (sym c.map.ensures.map)
    (subst (λ (m : Charted). All (Knows m.parts) c.args.ids.now) (sym (ap (λ (k : Kept). k.map) c.self.view_is)) c.requires.known)

-- each node has its index in the leaf order
has_places : (g : Over) (c : In_ok-places g) → HasPlaces c.map.result.now.order c.self.inside.order.ids c.deref.result.now
has_places g c =
    subst (λ (m : Charted). HasPlaces m.order c.self.inside.order.ids c.deref.result.now) (sym c.map.ensures.map)
    (subst (HasPlaces (charted_in c.self.inside.book).order c.self.inside.order.ids) (sym c.deref.ensures.value) c.self.invariant.planned.places_are)

rising : (g : Over) (c : In_ok-places g) → IsRising (length c.self.inside.order.ids) c.in_ok-places.places.items
rising g c = c.in_ok-places.ensures.rising c.self.inside.order.ids (has_places g c)

pub places_brought-requires : goal.places_brought-requires
places_brought-requires g c =
    let i = c.self.inside in
    let whole : length i.nodes.texts ≡ length i.order.ids = texts_whole (kind_in i.book) (charted_in i.book) i.settings i.order.ids i.order.places.items (shown_in i.book) i.nodes i.pairs c.self.invariant in
    subst (λ n. IsRising n c.in_ok-places.places.items) (sym whole) (rising g (goal.at.places_brought-requires g c).In_ok-places)

pub returns : goal.returns
returns g c =
    let d = (goal.at.returns g c).In_ok-places in
    let hash = g.H.Hasher.hash in
    let i = c.self.inside in
    let held = is_kept (kind_in i.book) (charted_in i.book) i.settings i.order.ids i.order.places.items (shown_in i.book) i.nodes i.pairs i.signature c.self.invariant in
    let places = c.in_ok-places.places.items in
    IfOk-weaker c.places_brought.result (ArePlaces hash i.nodes places) (AreBrought hash c.args.self.now c.args.ids.now) (λ (brought : PlacesBrought) at.
    subst (λ (k : Kept). AreBrought hash k c.args.ids.now brought) c.self.view_is
    (are_brought hash (kept_as (charted_in i.book) i.settings i.order.ids (shown_in i.book) i.signature) held c.args.ids.now places i.nodes brought c.self.invariant.spelled c.self.invariant.nodes_are at
    (rising g d) (c.in_ok-places.ensures.same i.order.ids (has_places g d)))) c.places_brought.ensures
