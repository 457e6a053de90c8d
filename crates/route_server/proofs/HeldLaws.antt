-- A book planned over a map, with its trees, is the held book.
use Rattle.std.proofs.Common.{◌≡◌, ℕ, ◌≤◌, None, Some, Option, List, length, refl, arith, ap, sym, subst, ◌∙◌}
use Rattle.std.proofs.lemmas.List.{length-map}
use Rattle.road_map.specs.Maps.{Charted, IsMap}
use Rattle.road_map.specs.declared.parts.Parts.{Parts}
use Rattle.road_leaf.specs.Leaves.{node_leaf_text}
use Rattle.book_model.specs.declared.settings.Settings.{Settings}
use Rattle.book_model.specs.Books.{Kind, Book, kind_of, leaves_of, IsBookOf}
use Rattle.proof_method.specs.Planning.{own_fault}
use Rattle.proof_method.specs.Gathering.{IsOrderOf}
use Rattle.route_server.specs.Fitting.{FitsFormats}
use Rattle.route_server.specs.Keeping.{IsKept, IsPlanned, IsHeldBook, kept_as}
use Rattle.route_server.specs.LeafTrees.{Leaves}
use Rattle.route_server.proofs.BooksFit.{books_fit}
use Rattle.route_server.proofs.Brought.{most_pairs_few}
use Rattle.route_server.proofs.Known.{length-leaves_of}

-- a planned book has an encoding
pub planned_fits : (kind : Kind) (parts : Parts) (s : Settings) (order : List ℕ) (b : Book) → IsMap parts → IsOrderOf parts order → kind_of s.method ≡ Some kind → own_fault (kind_of s.method) parts s ≡ None → IsBookOf kind parts s order b → FitsFormats kind b
planned_fits kind parts s order b is_map lists method allowed book = books_fit kind parts s order b is_map lists (subst (λ (o : Option Kind). own_fault o parts s ≡ None) method allowed) book

-- and few pairs
pub few_pairs : (kind : Kind) (b : Book) → FitsFormats kind b → length b.pairs ≤ 2097152
few_pairs kind b fits = omega (arith, fits.pairs_few, most_pairs_few kind)

-- the data kept of a map's book under a method
abbrev pub is_kept : (kind : Kind) (map : Charted) (s : Settings) (order places : List ℕ) (b : Book) (nodes : Leaves) (pairs : Option Leaves) (signature : List ℕ) → IsHeldBook kind map s order places b nodes pairs → IsKept (kept_as map s order b signature)
is_kept kind map s order places b nodes pairs signature held = record {
  is_map = held.planned.is_map;
  by_id = held.planned.by_id;
  allowed = held.planned.allowed;
  order = held.planned.order_is;
  lists = held.planned.lists;
  kind = kind;
  book = b;
  is_book = held.planned.is_book;
  vectors = held.planned.vectors;
  fits = held.planned.fits;
  nodes = refl;
  pairs = refl;
  numbers = refl;
}

-- the contents of its leaves
pub record IsShown (order : List ℕ) (b : Book) : Type 0 where
  pub is_map : IsMap b.parts
  pub lists : IsOrderOf b.parts order

pub shown : (kind : Kind) (map : Charted) (s : Settings) (order places : List ℕ) (b : Book) → IsPlanned kind map s order places b → IsShown order b
shown kind map s order places b planned =
    let same = sym planned.is_book.book.of_parts in
    record { is_map = subst IsMap same planned.is_map; lists = subst (λ (p : Parts). IsOrderOf p order) same planned.lists }

-- one text for each id
pub texts_whole : (kind : Kind) (map : Charted) (s : Settings) (order places : List ℕ) (b : Book) (nodes : Leaves) (pairs : Option Leaves) → IsHeldBook kind map s order places b nodes pairs → length nodes.texts ≡ length order
texts_whole kind map s order places b nodes pairs held =
    let lists = (shown kind map s order places b held.planned).lists in
    ap (λ (l : Leaves). length l.texts) held.nodes_are ∙ length-map (leaves_of b order) node_leaf_text ∙ length-leaves_of b order (λ id h. (lists.same id).0 h)
