-- Leaves that are encoded one at a time.
use Rattle.std.proofs.Common.{◌≡◌, ℕ, zero, suc, ◌<◌, ◌≤◌, ◌^◌, Some, None, List, [], ◌∷◌, length, get_or, refl, arith, ◌∙◌, sym, subst}
use Rattle.std.specs.List.{Contains}
use Rattle.std.proofs.lemmas.List.{get_or-map, length-map}
use Rattle.sha2.specs.Sha256.{sha256}
use Rattle.road_map.specs.declared.parts.Parts.{Parts}
use Rattle.road_map.specs.Maps.{Charted, IsMap, IsById}
use Rattle.road_map.specs.Walks.{Knows}
use Rattle.road_map.proofs.Among.{Contains-here, Contains-there}
use Rattle.road_leaf.specs.declared.leaf.NodeLeaf.{NodeLeaf}
use Rattle.road_leaf.specs.declared.pair.PairLeaf.{PairLeaf}
use Rattle.road_leaf.specs.Leaves.{node_leaf_text, pair_leaf}
use Rattle.book_model.specs.declared.settings.Settings.{Settings}
use Rattle.book_model.specs.declared.settings.Numbers.{Numbers}
use Rattle.book_model.specs.Books.{Kind, Book, IsBookOf, kind_of, leaf, leaf_order, leaves_of}
use Rattle.merkle_cover.specs.Trees.{root}
use Rattle.proof_method.specs.Gathering.{IsOrderOf}
use Rattle.proof_method.specs.Planning.{book_fault, own_fault}
use Rattle.proof_method.specs.Vectors.{HasVectors}
use Rattle.proof_octets.specs.declared.header.Header.{Header}
use Rattle.proof_octets.specs.Good.{IsGoodHeader}
use Rattle.route_server.specs.Fitting.{FitsFormats}
use Rattle.route_server.specs.Headers.{HasHeader, node_texts, pair_texts, root_or_zeros, header_with, header_of}
use Rattle.route_server.specs.Keeping.{Kept, IsKept, header_in, kept_as, leaves_in}
use Rattle.route_server.proofs.Distinct.{few_known}
use Rattle.route_server.proofs.HeaderLemmas.{header_is, count_either, root_either}
use Rattle.route_server.proofs.HeldLaws.{planned_fits}
use Rattle.route_server.proofs.KeepLemmas.{has_header}
use Rattle.route_server.proofs.Known.{known_leaf, length-leaves_of}

-- a map has few ids
pub few_ids : (parts : Parts) (order : List ℕ) → IsMap parts → IsOrderOf parts order → length order ≤ 65536
few_ids parts order is_map lists = few_known parts order is_map lists.distinct (λ x h. (lists.same x).0 h)

-- each id has a leaf, and the leaf has a text
pub length-leaves : (b : Book) (order : List ℕ) → IsOrderOf b.parts order → length (leaves_of b order) ≡ length order
length-leaves b order lists = length-leaves_of b order (λ id h. (lists.same id).0 h)

pub length-node_texts : (b : Book) (order : List ℕ) → IsOrderOf b.parts order → length (node_texts (leaves_of b order)) ≡ length order
length-node_texts b order lists = length-map (leaves_of b order) node_leaf_text ∙ length-leaves b order lists

-- the text at an index belongs to the leaf of the id at this index
pub text_at : (b : Book) (order : List ℕ) → ((x : ℕ) → Contains order x → Knows b.parts x) → (i : ℕ) (l : NodeLeaf) → i < length order → leaf b (get_or order i 0) ≡ Some l → get_or (node_texts (leaves_of b order)) i [] ≡ node_leaf_text l
text_at b [] known i l within e = absurd (omega (arith, within))
text_at b (id ∷ order) known zero l within e = rw e refl
text_at b (id ∷ order) known (suc i) l within e =
    let first = known_leaf b id (known id (Contains-here id order)) in
    let rest = text_at b order (λ x h. known x (Contains-there id x order h)) i l (omega (arith, within)) e in
    rw first.1 rest

-- the text at an index belongs to the pair at this index
pub pair_at : (pairs : List PairLeaf) (i : ℕ) (d : PairLeaf) (text : List ℕ) → i < length pairs → text ≡ pair_leaf.spell (get_or pairs i d) → get_or (pair_texts pairs) i [] ≡ text
pair_at pairs i d text within e = get_or-map pair_leaf.spell pairs i d [] within ∙ sym e

-- the header of these counts and roots
pub header_so : (hash : List ℕ → List ℕ) (s : Settings) (nodes : List NodeLeaf) (pairs : List PairLeaf) (numbers given : Numbers) (count : ℕ) (node_root : List ℕ) (pair_count : ℕ) (pair_root : List ℕ)
    → 1 ≤ length nodes → count ≡ length nodes → node_root ≡ root hash (node_texts nodes) s.fan → pair_count ≡ length pairs → pair_root ≡ root_or_zeros hash s.fan (pair_texts pairs) → given ≡ numbers
    → header_with s count node_root pair_count pair_root given ≡ header_of hash s nodes pairs numbers
header_so hash s nodes pairs numbers given count node_root pair_count pair_root some n r m q e =
    let long : length (node_texts nodes) ≡ length nodes = length-map nodes node_leaf_text in
    header_is hash s nodes pairs numbers given (record { fan = s.fan; texts = node_texts nodes }) (leaves_in s.fan (pair_texts pairs)) count node_root pair_count pair_root
    refl (omega (arith, long, some)) refl (n ∙ sym long) r (m ∙ sym (length-map pairs pair_leaf.spell) ∙ sym (count_either s.fan (pair_texts pairs))) (q ∙ sym (root_either hash s.fan (pair_texts pairs))) e

-- a book planned over a leaf order
pub over_order : (kind : Kind) (parts : Parts) (s : Settings) (ids order : List ℕ) (b : Book) → ids ≡ order → IsBookOf kind parts s ids b → IsBookOf kind parts s order b
over_order kind parts s ids order b same is = subst (λ (o : List ℕ). IsBookOf kind parts s o b) same is

-- has an encoding
pub order_fits : (kind : Kind) (parts : Parts) (s : Settings) (ids order : List ℕ) (b : Book) → ids ≡ order → IsMap parts → IsOrderOf parts order → kind_of s.method ≡ Some kind → own_fault (kind_of s.method) parts s ≡ None
    → IsBookOf kind parts s ids b → FitsFormats kind b
order_fits kind parts s ids order b same is_map lists method allowed is = planned_fits kind parts s order b is_map lists method allowed (over_order kind parts s ids order b same is)

-- the data kept of it, without its trees
pub planned_kept : (kind : Kind) (map : Charted) (s : Settings) (order : List ℕ) (b : Book) → IsMap map.parts → IsById map.parts.nodes map.order → book_fault map.parts s ≡ None → order ≡ leaf_order sha256 map.parts s
    → IsOrderOf map.parts order → kind_of s.method ≡ Some kind → IsBookOf kind map.parts s order b → HasVectors kind b → FitsFormats kind b → IsKept (kept_as map s order b [])
planned_kept kind map s order b is_map by_id allowed order_is lists method book vectors fits = record {
  is_map = is_map;
  by_id = by_id;
  allowed = allowed;
  order = order_is;
  lists = lists;
  kind = kind;
  book = b;
  is_book = record { method = method; book = subst (λ (o : List ℕ). IsBookOf kind map.parts s o b) order_is book };
  vectors = vectors;
  fits = fits;
  nodes = refl;
  pairs = refl;
  numbers = refl;
}

-- its header is the header of the map's parts and the settings
pub has_so : (hash : List ℕ → List ℕ) (map : Charted) (s : Settings) (order : List ℕ) (b : Book) (h : Header) → IsKept (kept_as map s order b []) → h ≡ header_of hash s (leaves_of b order) b.pairs b.numbers → HasHeader hash sha256 map.parts s h
has_so hash map s order b h kept e = subst (λ x. HasHeader hash sha256 map.parts s x) (sym e) (has_header hash (kept_as map s order b []) kept)

pub good_so : (hash : List ℕ → List ℕ) → ((k : Kept) → IsKept k → k.settings.version < 2 ^ 64 → IsGoodHeader (header_in hash k)) → (map : Charted) (s : Settings) (order : List ℕ) (b : Book) (h : Header) → IsKept (kept_as map s order b [])
    → h ≡ header_of hash s (leaves_of b order) b.pairs b.numbers → s.version < 2 ^ 64 → IsGoodHeader h
good_so hash laws map s order b h kept e version = subst IsGoodHeader (sym e) (laws (kept_as map s order b []) kept version)
