-- The contents that a reply takes from a held book.
use Rattle.std.proofs.Common.{◌≡◌, ℕ, ◌-◌, ◌*◌, ◌^◌, ◌<◌, ◌≤◌, List, length, nat_eq, refl, arith, ap, sym, ◌∙◌, subst}
use Rattle.std.specs.Prelude.{All}
use Rattle.std.specs.List.{Contains, IsDistinct}
use Rattle.std.proofs.lemmas.Bool.Decides.{nat_tests}
use Rattle.std.proofs.lemmas.List.{length-map}
use Rattle.std.proofs.lemmas.List.Elements.{All-contains}
use Rattle.std.proofs.lemmas.List.Sorted.{Contains-permutation, IsPermutation-sym}
use Rattle.std.proofs.lemmas.Map.Keys.{IsDistinct-IsPermutation}
use Rattle.sha2.specs.Sha256.{sha256}
use Rattle.road_map.specs.declared.parts.Parts.{Parts}
use Rattle.road_map.specs.Walks.{Knows}
use Rattle.road_leaf.specs.declared.leaf.LeafKind as leaf_kinds
use Rattle.road_leaf.specs.declared.leaf.NodeLeaf.{NodeLeaf}
use Rattle.road_leaf.specs.Leaves.{node_leaf, node_leaf_text}
use Rattle.book_model.specs.declared.settings.Numbers.{Numbers}
use Rattle.book_model.specs.Books.{leaves_of}
use Rattle.merkle_cover.specs.Covers.{IsRising, cover_of}
use Rattle.proof_octets.specs.declared.header.Header.{Header}
use Rattle.proof_octets.specs.Good.{IsGoodHeader, IsCover}
use Rattle.proof_octets.specs.Headers.{leaf_kind}
use Rattle.proof_octets.proofs.NearFormat.{near_good}
use Rattle.proof_octets.proofs.ReplyLength.{near_few}
use Rattle.route_server.specs.declared.bringing.PlacesBrought.{PlacesBrought}
use Rattle.route_server.specs.Bringing.{AreBrought}
use Rattle.route_server.specs.Fitting.{kind_of_leaves}
use Rattle.route_server.specs.Headers.{node_texts, header_of}
use Rattle.route_server.specs.Honesty.{ids_at}
use Rattle.route_server.specs.Keeping.{Kept, IsKept, header_in, publication_in}
use Rattle.route_server.proofs.Answering.{InRange, in_range, code_is, leaf_kind_is, cover_few, cover_good, few_rising, placing}
use Rattle.route_server.proofs.Distinct.{few_known}
use Rattle.route_server.proofs.Known.{length-leaves_of}
use Rattle.route_server.proofs.LeavesAt.{all_at, has_near_leaves}
use Rattle.proof_octets.specs.declared.query.NearQuery.{NearQuery}
use Rattle.proof_octets.specs.declared.near_reply.NearReply.{NearReply}
use Rattle.proof_octets.specs.declared.placed_near.PlacedNear.{PlacedNear}
use Rattle.proof_octets.specs.PlacedNear.{near_with}
use Rattle.proof_method.specs.Gathering.{IsOrderOf}
use Rattle.proof_octets.specs.NearReplies.{near_reply, IsGoodNear}
use Rattle.proof_octets.specs.Radius.{IsWithin}
use Rattle.route_server.specs.NearHonesty.{IsNearReply, IsNearHonest, IsOver, IsToldOver}

flips : (x y : ℕ) → nat_eq x y ≡ nat_eq y x
flips x y = grind (arith, nat_tests)

-- the reply with these indices under a header and a signature
abbrev pub placed_with : Header → List ℕ → PlacesBrought → PlacedNear
placed_with header signature b = record { header = header; signature = signature; places = b.places; cover = b.cover }

-- the leaves at these indices
abbrev leaves_there : (hash : List ℕ → List ℕ) (k : Kept) (ids : List ℕ) (b : PlacesBrought) → AreBrought hash k ids b → List NodeLeaf
leaves_there hash k ids b br = leaves_of br.kept.book (ids_at k.order b.places)

fan_is : (hash : List ℕ → List ℕ) (k : Kept) → (header_in hash k).fan ≡ k.settings.fan
unfolding header_of
fan_is hash k = refl

pub version_small : (hash : List ℕ → List ℕ) (k : Kept) (h : Header) → h ≡ header_in hash k → h.version < 2 ^ 64 → k.settings.version < 2 ^ 64
unfolding header_of
version_small hash k h e small = subst (λ (x : Header). x.version < 2 ^ 64) e small

over : (hash : List ℕ → List ℕ) (k : Kept) (q : NearQuery) (ids : List ℕ) (b : PlacesBrought) (header : Header) (signature : List ℕ) (br : AreBrought hash k ids b) → IsDistinct nat_eq ids
    → ((id : ℕ) → (Contains ids id → IsWithin k.map.parts q id) × (IsWithin k.map.parts q id → Contains ids id)) → header ≡ header_in hash k → signature ≡ k.signature → IsOver hash k q (near_with (placed_with header signature b) (leaves_there hash k ids b br))
over hash k q ids b header signature br distinct same header_is signature_is = record {
  kept = br.kept;
  says = record {
    header = header_is;
    signature = signature_is;
    rising = br.rising;
    distinct = IsDistinct-IsPermutation nat_eq flips ids (ids_at k.order b.places) br.same distinct;
    same = λ id. (
      λ c. (same id).0 (Contains-permutation (ids_at k.order b.places) ids id (IsPermutation-sym ids (ids_at k.order b.places) br.same) c),
      λ w. Contains-permutation ids (ids_at k.order b.places) id br.same ((same id).1 w),
    );
    nodes = refl;
    cover = br.cover ∙ ap (λ (ls : List NodeLeaf). cover_of hash (node_texts ls) k.settings.fan b.places) br.kept.nodes ∙ ap (λ (f : ℕ). cover_of hash (node_texts (leaves_of br.kept.book k.order)) f b.places) (sym (fan_is hash k));
  };
}

-- ---- the reply has an encoding

kind_is : (hash : List ℕ → List ℕ) (k : Kept) (kept : IsKept k) → leaf_kind (header_in hash k) ≡ kind_of_leaves kept.kind kept.book.numbers
unfolding header_of
kind_is hash k kept = leaf_kind_is (header_in hash k) kept.kind (code_is k.settings.method kept.kind kept.is_book.method) ∙ ap (λ (n : Numbers). kind_of_leaves kept.kind n) kept.numbers

-- the ids of the order are those of the book
lists_book : (k : Kept) (kept : IsKept k) → IsOrderOf kept.book.parts k.order
lists_book k kept = subst (λ (p : Parts). IsOrderOf p k.order) (sym kept.is_book.book.of_parts) kept.lists

few_order : (k : Kept) → IsKept k → length k.order ≤ 65536
few_order k kept = few_known k.map.parts k.order kept.is_map kept.lists.distinct (λ id h. (kept.lists.same id).0 h)

good : (hash : List ℕ → List ℕ) (k : Kept) (ids : List ℕ) (b : PlacesBrought) (header : Header) (signature : List ℕ) → ((text : List ℕ) → length (hash text) ≡ 32) → (br : AreBrought hash k ids b) → ((id : ℕ) → Contains ids id → Knows k.map.parts id)
    → header ≡ header_in hash k → IsGoodHeader (header_in hash k) → length signature ≤ 1452 → IsGoodNear (near_with (placed_with header signature b) (leaves_there hash k ids b br))
good hash k ids b header signature size br known header_is good_header short =
    let kept = br.kept in
    let book = kept.book in
    let parts : book.parts ≡ k.map.parts = kept.is_book.book.of_parts in
    let among = λ (id : ℕ) (h : Contains (ids_at k.order b.places) id).
    subst (λ (p : Parts). Knows p id) (sym parts) (known id (Contains-permutation (ids_at k.order b.places) ids id (IsPermutation-sym ids (ids_at k.order b.places) br.same) h)) in
    let lists = lists_book k kept in
    let leaves = leaves_there hash k ids b br in
    let few = few_order k kept in
    let range : InRange k.settings = in_range k.map.parts k.settings kept.allowed in
    let texts : length (node_texts k.nodes) ≡ length k.order = length-map k.nodes node_leaf_text ∙ ap (λ (ls : List NodeLeaf). length ls) kept.nodes ∙ length-leaves_of book k.order (λ id h. (lists.same id).0 h) in
    let one_each : length leaves ≡ length b.places = length-leaves_of book (ids_at k.order b.places) among ∙ length-map b.places _ in
    record {
      header = subst IsGoodHeader (sym header_is) good_header;
      signature = short;
      nodes = placing (length k.order) (length leaves) b.places (omega (arith, few)) br.rising br.small one_each;
      leaves = subst (λ (l : leaf_kinds.LeafKind). All (node_leaf l).Fits leaves) (sym (ap leaf_kind header_is ∙ kind_is hash k kept))
          (all_at (node_leaf (kind_of_leaves kept.kind book.numbers)).Fits book k.order b.places lists br.rising br.spelled);
      cover = subst IsCover (sym br.cover) (cover_good hash k.settings.fan (node_texts k.nodes) b.places size range.fan range.fan_max (omega (arith, texts, few)) (subst (λ n. IsRising n b.places) (sym texts) br.rising));
    }

-- ---- the reply is not long

pub over_short : (hash : List ℕ → List ℕ) (k : Kept) (q : NearQuery) (a : NearReply) → IsOver hash k q a → near_reply.Fits a → length (near_reply.spell a) < 2 ^ 32 - 16
over_short hash k q a is fits =
    let good = near_good a fits in
    let header : IsGoodHeader (header_in hash k) = subst IsGoodHeader is.says.header good.header in
    let texts = node_texts (leaves_of is.kept.book k.order) in
    let few = few_order k is.kept in
    let count : length texts ≡ length k.order = length-map (leaves_of is.kept.book k.order) node_leaf_text ∙ length-leaves_of is.kept.book k.order (λ id h. ((lists_book k is.kept).same id).0 h) in
    let cover : length (cover_of hash texts (header_in hash k).fan a.places) ≤ 65536 * 32 = cover_few hash (header_in hash k).fan texts a.places 65536 header.fan_low header.fan_high (omega (arith, count, few)) (subst (λ n. IsRising n a.places) (sym count) is.says.rising) in
    near_few a good (omega (arith, few_rising (length k.order) a.places is.says.rising, few)) (omega (arith, cover, ap (λ (xs : List (List ℕ)). length xs) is.says.cover))

-- ---- the book holds the texts of its leaves

pub told_over : (hash : List ℕ → List ℕ) (k : Kept) (q : NearQuery) (ids : List ℕ) (b : PlacesBrought) (header : Header) (signature : List ℕ) → ((text : List ℕ) → length (hash text) ≡ 32) → ((a : NearReply) → IsGoodNear a → near_reply.Fits a) → AreBrought hash k ids b
    → IsDistinct nat_eq ids → All (Knows k.map.parts) ids → ((id : ℕ) → (Contains ids id → IsWithin k.map.parts q id) × (IsWithin k.map.parts q id → Contains ids id))
    → header ≡ header_in hash k → IsGoodHeader (header_in hash k) → signature ≡ k.signature → length k.signature ≤ 1452 → IsToldOver hash k q (placed_with header signature b)
told_over hash k q ids b header signature size law br distinct known same header_is good_header signature_is short =
    let kept = br.kept in
    let placed = placed_with header signature b in
    let leaves = leaves_there hash k ids b br in
    let is_good = good hash k ids b header signature size br (λ id h. All-contains (Knows k.map.parts) ids id known h) header_is good_header (subst (λ (s : List ℕ). length s ≤ 1452) (sym signature_is) short) in
    record {
      leaves = leaves;
      over = over hash k q ids b header signature br distinct same header_is signature_is;
      told = has_near_leaves placed (node_texts k.nodes) kept.book k.order (lists_book k kept) (ap (λ (ls : List NodeLeaf). node_texts ls) kept.nodes) br.rising (law (near_with placed leaves) is_good);
    }

-- ---- the reply is honest

pub honest : (hash : List ℕ → List ℕ) (k : Kept) (q : NearQuery) (a : NearReply) (octets : List ℕ) → Knows k.map.parts q.from → IsOver hash k q a → near_reply.Fits a → octets ≡ near_reply.spell a → IsNearHonest hash sha256 (publication_in hash k) q octets
honest hash k q a octets known is fits spelled = record {
  known = known;
  kind = is.kept.kind;
  book = is.kept.book;
  is_book = is.kept.is_book;
  reply = a;
  says = subst (λ (o : List ℕ). IsNearReply hash o is.kept.book (publication_in hash k) q a) is.kept.order is.says;
  fits = fits;
  spelled = spelled;
}
