-- Whether a publication can be installed, as functions: the octets encode a publication, its parts are a map, the
-- map has a book under its settings, and the book's header is the publication's.
use Rattle.std.specs.Prelude.{ℕ, ◌==◌, Bool, true, ◌&&◌, if◌then◌else◌, Option, None, Some, Result, Ok, Err, List, [], ◌∷◌}
use Rattle.std.specs.List.{cons_option}
use Rattle.std.specs.Str.{bytes_eq}
use Rattle.octet_text.specs.Format.{whole}
use Rattle.road_map.specs.declared.parts.Parts.{Parts}
use Rattle.road_map.specs.Walks.{distance}
use Rattle.road_map.specs.MapTests.{is_map}
use Rattle.road_leaf.specs.declared.leaf.Extra.{Extra}
use Rattle.road_leaf.specs.declared.leaf.NodeLeaf.{NodeLeaf}
use Rattle.book_model.specs.declared.settings.Settings.{Settings}
use Rattle.book_model.specs.declared.settings.Numbers.{Numbers}
use Rattle.book_model.specs.declared.settings.PlanError.{PlanError}
use Rattle.book_model.specs.Pairs.{pairs_of}
use Rattle.book_model.specs.Books.{Kind, kind_of, leaf_of, leaf_order, extras, paired, first_number, second_number}
use Rattle.proof_method.specs.Planning.{book_fault}
use Rattle.proof_octets.specs.declared.header.Header.{Header}
use Rattle.proof_octets.specs.declared.publication.Publication.{Publication}
use Rattle.proof_octets.specs.Publications.{publication}
use Rattle.route_server.specs.Headers.{header_of}

-- ---- the octets encode a publication

abbrev pub as_spelled : Result Publication ℕ → Option Publication
as_spelled (Ok p) = Some p
as_spelled (Err at) = None

-- the publication that all these octets encode
unfoldable pub spelled_publication : List ℕ → Option Publication
spelled_publication text = as_spelled (whole publication text)

-- ---- the book's header is the publication's

-- the leaves of ids, with the contents that a method adds to each
abbrev pub leaves_with : Parts → List ℕ → List Extra → List NodeLeaf
leaves_with parts [] extras = []
leaves_with parts (id ∷ order) [] = []
leaves_with parts (id ∷ order) (extra ∷ extras) = cons_option (leaf_of parts (λ _. extra) id)
    (leaves_with parts order extras)

-- the two numbers of a book
abbrev pub numbers_of : Kind → Parts → Settings → Numbers
numbers_of kind parts s = record {
  first = first_number kind parts s;
  second = second_number kind s;
}

-- the header of the book of parts and settings under a method; sha shuffles
unfoldable pub header_by : (List ℕ → List ℕ) → (List ℕ → List ℕ) → Kind → Parts → Settings → Header
header_by hash sha kind parts s =
    header_of hash s (leaves_with parts (leaf_order sha parts s)
    (extras kind parts s (leaf_order sha parts s)))
    (pairs_of (distance parts) (paired kind parts s)) (numbers_of kind parts s)

abbrev pub is_same_header : Header → Header → Bool
is_same_header a b =
    (a.method == b.method) && (a.order == b.order) && (a.fan == b.fan) && (a.version == b.version)
    && (a.nodes == b.nodes) && bytes_eq a.node_root b.node_root &&
    (a.pairs == b.pairs) && bytes_eq a.pair_root b.pair_root
    && (a.numbers.first == b.numbers.first) && (a.numbers.second == b.numbers.second)

abbrev pub is_header_by : (List ℕ → List ℕ) → (List ℕ → List ℕ) → Publication → Option Kind → Bool
is_header_by hash sha p None = true
is_header_by hash sha p (Some kind) = is_same_header
    (header_by hash sha kind p.parts p.settings) p.header

-- ---- the first reason why it cannot be installed: 2 if its parts are not a map, 3 if the map has no book,
-- 4 if the header is another

abbrev pub book_refusal : Option PlanError → Bool → Option ℕ
book_refusal (Some fault) same = Some 3
book_refusal None same = if same then None else Some 4

unfoldable pub refusal_of : (List ℕ → List ℕ) → (List ℕ → List ℕ) → Publication → Option ℕ
refusal_of hash sha p =
    if is_map p.parts then book_refusal (book_fault p.parts p.settings)
    (is_header_by hash sha p (kind_of p.settings.method)) else Some 2
