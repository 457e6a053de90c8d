-- Indices of leaves of a held book.
use Rattle.std.proofs.Common.{◌≡◌, ℕ, List, length, ap, sym, subst, ◌∙◌}
use Rattle.std.specs.Prelude.{All}
use Rattle.std.specs.List.Sorted.{IsPermutation}
use Rattle.road_leaf.specs.Leaves.{node_leaf}
use Rattle.book_model.specs.Books.{leaves_of}
use Rattle.merkle_cover.specs.Covers.{IsRising, cover_of}
use Rattle.route_server.specs.declared.bringing.PlacesBrought.{PlacesBrought}
use Rattle.route_server.specs.Bringing.{ArePlaces, AreBrought}
use Rattle.route_server.specs.Fitting.{kind_of_leaves}
use Rattle.route_server.specs.Headers.{node_texts}
use Rattle.route_server.specs.Honesty.{ids_at}
use Rattle.route_server.specs.Keeping.{Kept, IsKept}
use Rattle.route_server.specs.LeafTrees.{Leaves}

pub are_brought : (hash : List ℕ → List ℕ) (k : Kept) (kept : IsKept k) (ids places : List ℕ) (tree : Leaves) (b : PlacesBrought) → All (node_leaf (kind_of_leaves kept.kind kept.book.numbers)).Fits (leaves_of kept.book k.order)
    → tree ≡ record { fan = k.settings.fan; texts = node_texts k.nodes } → ArePlaces hash tree places b → IsRising (length k.order) places → IsPermutation ids (ids_at k.order places) → AreBrought hash k ids b
are_brought hash k kept ids places tree b spelled tree_is at rising same = record {
  kept = kept;
  rising = subst (IsRising (length k.order)) (sym at.places) rising;
  small = at.small;
  same = subst (λ (xs : List ℕ). IsPermutation ids (ids_at k.order xs)) (sym at.places) same;
  spelled = spelled;
  cover = at.cover ∙ ap (λ (l : Leaves). cover_of hash l.texts l.fan places) tree_is ∙ ap (cover_of hash (node_texts k.nodes) k.settings.fan) (sym at.places);
}
