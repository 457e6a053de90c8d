use Rattle.std.proofs.Common.{ℕ, List, sym, subst, ◌∙◌}
use Rattle.road_map.specs.Maps.{Charted}
use Rattle.book_model.specs.Books.{IsBookOf}
use Rattle.method_books.specs.AnyBooks.{kind_in, shown_in}
use Rattle.route_server.specs.Keeping.{IsPlanned}
use Rattle.route_server.proofs.RisenLemmas.{order_fits}
use Rattle.route_server.proofs.held.Held.of_map.Goals as goal

pub over-requires-clause-planned : goal.over-requires-clause-planned
over-requires-clause-planned g c =
    let kind = kind_in c.in_ok-book.book in
    let b = shown_in c.in_ok-book.book in
    let map = c.args.map in
    let s = c.args.settings.now in
    let order = c.in_ok-order.order in
    let planned : IsPlanned kind map s order.ids order.places.items b
    = record {
      is_map = c.parts-parts.ensures.is_map;
      by_id = c.parts-parts.ensures.by_id;
      allowed = c.requires.own ∙ c.in_ok-book.ensures.allowed;
      order_is = c.in_ok-order.ensures.value;
      lists = c.in_ok-order.ensures.lists;
      is_book = record { method = c.in_ok-book.ensures.method; book = subst (λ (o : List ℕ). IsBookOf kind map.parts s o b) (c.as_slice.ensures ∙ c.in_ok-order.ensures.value) c.in_ok-book.ensures.book };
      vectors = c.in_ok-book.ensures.vectors;
      fits = order_fits _ _ _ _ _ _ c.as_slice.ensures c.parts-parts.ensures.is_map c.in_ok-order.ensures.lists c.in_ok-book.ensures.method c.in_ok-book.ensures.allowed c.in_ok-book.ensures.book;
      places_are = c.in_ok-order.ensures.places;
    } in
    subst (λ (m : Charted). IsPlanned kind m s order.ids order.places.items b) (sym c.in_ok-book.ensures.map) planned
