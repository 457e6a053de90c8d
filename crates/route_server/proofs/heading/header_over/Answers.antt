use Rattle.std.proofs.Common.{ℕ, List, [], subst, sym, ap, ◌∙◌}
use Rattle.road_map.specs.declared.parts.Parts.{Parts}
use Rattle.road_map.specs.Maps.{IsMap}
use Rattle.book_model.specs.Books.{IsBookOf}
use Rattle.method_books.specs.AnyBooks.{kind_in, shown_in}
use Rattle.proof_method.specs.Gathering.{IsOrderOf}
use Rattle.route_server.specs.Fitting.{FitsFormats}
use Rattle.route_server.specs.Headers.{book_header}
use Rattle.route_server.specs.Keeping.{IsKept, kept_as}
use Rattle.route_server.proofs.RisenLemmas.{over_order, order_fits, planned_kept, has_so, good_so}
use Rattle.route_server.proofs.heading.header_over.Given.{Over}
use Rattle.route_server.proofs.heading.header_over.Goals as goal
use Rattle.route_server.proofs.heading.header_over.Goals.{In_ok-book}

-- the planned book, over the leaf order
planned : (g : Over) (c : In_ok-book g) → IsBookOf (kind_in c.in_ok-book.book) c.args.map.parts c.args.settings.now c.in_ok-order.order (shown_in c.in_ok-book.book)
planned g c = over_order _ _ _ _ _ _ c.as_slice-ids.ensures c.in_ok-book.ensures.book

-- has an encoding
fits : (g : Over) (c : In_ok-book g) → FitsFormats (kind_in c.in_ok-book.book) (shown_in c.in_ok-book.book)
fits g c =
    order_fits _ _ _ _ _ _ c.as_slice-ids.ensures c.parts-parts.ensures.is_map c.in_ok-order.ensures.lists c.in_ok-book.ensures.method c.in_ok-book.ensures.allowed c.in_ok-book.ensures.book

-- so it could be kept
kept : (g : Over) (c : In_ok-book g) → IsKept (kept_as c.args.map c.args.settings.now c.in_ok-order.order (shown_in c.in_ok-book.book) [])
kept g c =
    planned_kept (kind_in c.in_ok-book.book) c.args.map c.args.settings.now c.in_ok-order.order (shown_in c.in_ok-book.book) c.parts-parts.ensures.is_map c.parts-parts.ensures.by_id (c.requires.own ∙ c.in_ok-book.ensures.allowed) c.in_ok-order.ensures.value
    c.in_ok-order.ensures.lists c.in_ok-book.ensures.method (planned g c) c.in_ok-book.ensures.vectors (fits g c)

pub header_over_book-requires : goal.header_over_book-requires
header_over_book-requires g c =
    let d = (goal.at.header_over_book-requires g c).In_ok-book in
    let same = sym (planned g d).of_parts in
    record {
      map = subst IsMap same c.parts-parts.ensures.is_map;
      order = subst (IsOrderOf (shown_in c.in_ok-book.book).parts) (sym c.as_slice-ids.ensures) (subst (λ (p : Parts). IsOrderOf p c.in_ok-order.order) same c.in_ok-order.ensures.lists);
      fits = fits g d;
      fan = c.requires.fan;
      fan_max = c.requires.fan_max;
    }

pub returns-clause-has : goal.returns-clause-has
returns-clause-has g c =
    has_so g.H.Hasher.hash c.args.map c.args.settings.now c.in_ok-order.order (shown_in c.in_ok-book.book) c.in_ok-header_over_book.field-0.header (kept g (goal.at.returns-clause-has g c).In_ok-book)
    (c.in_ok-header_over_book.ensures.header ∙ ap (λ (o : List ℕ). book_header g.H.Hasher.hash c.args.settings.now o (shown_in c.in_ok-book.book)) c.as_slice-ids.ensures)

pub returns-clause-good : goal.returns-clause-good
returns-clause-good g c =
    good_so g.H.Hasher.hash c.header_laws.ensures c.args.map c.args.settings.now c.in_ok-order.order (shown_in c.in_ok-book.book) c.in_ok-header_over_book.field-0.header (kept g (goal.at.returns-clause-good g c).In_ok-book)
    (c.in_ok-header_over_book.ensures.header ∙ ap (λ (o : List ℕ). book_header g.H.Hasher.hash c.args.settings.now o (shown_in c.in_ok-book.book)) c.as_slice-ids.ensures)
