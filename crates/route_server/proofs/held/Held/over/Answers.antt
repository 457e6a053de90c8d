use Rattle.std.proofs.Common.{ℕ, List, All, ap, sym, subst, ◌∙◌}
use Rattle.road_leaf.specs.Leaves.{node_leaf}
use Rattle.book_model.specs.Books.{Book, leaves_of}
use Rattle.method_books.specs.declared.any.AnyBook.{AnyBook}
use Rattle.method_books.specs.AnyBooks.{kind_in, shown_in, charted_in}
use Rattle.proof_method.specs.Gathering.{IsOrderOf}
use Rattle.route_server.specs.Fitting.{kind_of_leaves}
use Rattle.route_server.specs.Headers.{node_texts}
use Rattle.route_server.specs.Keeping.{HasSpellings, IsHeldBook, kept_as}
use Rattle.route_server.specs.LeafTrees.{Leaves}
use Rattle.route_server.proofs.HeldLaws.{is_kept, shown}
use Rattle.route_server.proofs.held.Held.over.Given.{Over}
use Rattle.route_server.proofs.held.Held.over.Goals as goal
use Rattle.route_server.proofs.held.Held.over.Goals.{In_ok-grown}

pub with_trees-requires : goal.with_trees-requires
with_trees-requires g c =
    let b = shown_in c.args.book in
    let is = shown (kind_in c.args.book) (charted_in c.args.book) c.args.settings.now c.args.order.ids c.args.order.places.items b c.requires.planned in
    record {
      map = is.is_map;
      order = subst (IsOrderOf b.parts) (sym c.as_slice.ensures) is.lists;
      fits = c.requires.planned.fits;
      fan = c.requires.fan;
      fan_max = c.requires.fan_max;
    }

abbrev tree_leaves : ℕ → Book → List ℕ → Leaves
tree_leaves fan b order = record { fan = fan; texts = node_texts (leaves_of b order) }

-- each leaf has an encoding
spelled : (g : Over) (c : In_ok-grown g) → All (node_leaf (kind_of_leaves (kind_in c.args.book) (shown_in c.args.book).numbers)).Fits (leaves_of (shown_in c.args.book) c.args.order.ids)
spelled g c =
    let b = shown_in c.args.book in
    subst (λ (o : List ℕ). All (node_leaf (kind_of_leaves (kind_in c.args.book) b.numbers)).Fits (leaves_of b o)) c.as_slice.ensures c.in_ok-grown.ensures.nodes_fit

-- the book is held with its trees
held : (g : Over) (c : In_ok-grown g) → IsHeldBook (kind_in c.in_ok-grown.grown.book) (charted_in c.in_ok-grown.grown.book) c.args.settings.now c.args.order.ids c.args.order.places.items (shown_in c.in_ok-grown.grown.book) c.in_ok-grown.grown.nodes c.in_ok-grown.grown.pairs
held g c =
    let b = shown_in c.args.book in
    let s = c.args.settings.now in
    subst (λ (any : AnyBook). IsHeldBook (kind_in any) (charted_in any) s c.args.order.ids c.args.order.places.items (shown_in any) c.in_ok-grown.grown.nodes c.in_ok-grown.grown.pairs) (sym c.in_ok-grown.ensures.book)
    (record {
      planned = c.requires.planned;
      spelled = spelled g c;
      nodes_are = c.in_ok-grown.ensures.nodes ∙ ap (tree_leaves s.fan b) c.as_slice.ensures;
      pairs_are = c.in_ok-grown.ensures.pairs;
    })

pub invariant_of-result : goal.invariant_of-result
invariant_of-result g c = held g (goal.at.invariant_of-result g c).In_ok-grown

pub returns-clause-kept : goal.returns-clause-kept
returns-clause-kept g c =
    is_kept (kind_in c.in_ok-grown.grown.book) (charted_in c.in_ok-grown.grown.book) c.args.settings.now c.args.order.ids c.args.order.places.items (shown_in c.in_ok-grown.grown.book) c.in_ok-grown.grown.nodes c.in_ok-grown.grown.pairs c.from_vec.result (held g (goal.at.returns-clause-kept g c).In_ok-grown)

pub returns-clause-spelled : goal.returns-clause-spelled
returns-clause-spelled g c =
    subst (λ (any : AnyBook). HasSpellings (kept_as (charted_in any) c.args.settings.now c.args.order.ids (shown_in any) c.from_vec.result)) (sym c.in_ok-grown.ensures.book)
    (record {
      kind = kind_in c.args.book;
      method = c.requires.planned.is_book.method;
      nodes = spelled g (goal.at.returns-clause-spelled g c).In_ok-grown;
      pairs = c.in_ok-grown.ensures.pairs_fit;
    })
