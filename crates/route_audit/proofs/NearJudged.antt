-- A comparison with a held book gives the same result as one with its publication, for replies for a radius.
use Rattle.std.proofs.Common.{◌≡◌, ℕ, Some, List, [], length, Ok, sym, ap, subst, arith, ◌∙◌}
use Rattle.std.specs.Prelude.{All}
use Rattle.std.specs.List.{Contains}
use Rattle.std.proofs.lemmas.List.Elements.{All-contains}
use Rattle.std.proofs.lemmas.List.{length-map}
use Rattle.sha2.specs.Sha256.{sha256}
use Rattle.road_map.specs.declared.parts.Parts.{Parts}
use Rattle.road_map.specs.Laws.{DistanceLaws}
use Rattle.road_map.specs.Maps.{IsMap}
use Rattle.road_map.proofs.Among.{Contains-none}
use Rattle.road_leaf.specs.declared.leaf.LeafKind as leaf_kinds
use Rattle.road_leaf.specs.declared.leaf.NodeLeaf.{NodeLeaf}
use Rattle.road_leaf.specs.Leaves.{node_leaf, node_leaf_text}
use Rattle.book_model.specs.Books.{Kind, leaf, leaves_of, leaf_order, IsBookOf}
use Rattle.merkle_cover.specs.Covers.{chosen_texts}
use Rattle.merkle_cover.specs.declared.clashes.TwoTexts.{TwoTexts}
use Rattle.proof_method.specs.Gathering.{IsOrderOf, StandIn}
use Rattle.proof_method.specs.Laws.{KeepsTrue}
use Rattle.proof_octets.specs.Headers.{leaf_kind}
use Rattle.route_server.specs.Fitting.{kind_of_leaves}
use Rattle.route_server.specs.Headers.{node_texts}
use Rattle.route_server.specs.Keeping.{Kept, IsKept, HasSpellings, header_in, publication_in, texts_in}
use Rattle.route_server.proofs.OneHeader.{SameLeaves, same_leaves, kind_same}
use Rattle.route_audit.specs.Comparing.{leaves_or_none}
use Rattle.octet_text.specs.Collisions.{AreCollision}
use Rattle.route_audit.specs.Evidence.{Part, IsTreesOwn, Clashes}
use Rattle.route_audit.proofs.Authentic.{one_leaf, stands}
use Rattle.route_audit.proofs.Folded.{leaves_are}
use Rattle.route_audit.proofs.Judged.{leaves_same, kind_of_items}
use Rattle.proof_octets.specs.declared.query.NearQuery.{NearQuery}
use Rattle.proof_octets.specs.declared.near_reply.NearReply.{NearReply}
use Rattle.proof_octets.specs.NearReplies.{IsGoodNear}
use Rattle.proof_octets.specs.Radius.{AreWithin, ListsMarks}
use Rattle.route_client.specs.declared.within.Within.{Within}
use Rattle.route_client.specs.NearVerdicts.{IsReached, LacksItem}
use Rattle.route_audit.specs.NearComparing.{part_of}
use Rattle.route_audit.specs.NearEvidence.{near_part, IsOwn, IsRight, Collides}
use Rattle.route_audit.proofs.NearSound.{alone, within_map}

-- a held book, and an accepted reply with its header
pub record Met (hash : List ℕ → List ℕ) (k : Kept) (q : NearQuery) (x : Within) (a : NearReply) : Type 0 where
  pub kept : IsKept k
  pub spelled : HasSpellings k
  pub good : IsGoodNear a
  pub header : a.header ≡ header_in hash k
  pub complete : (id : ℕ) → ¬ LacksItem a.nodes q id
  pub nodes : ListsMarks (IsReached a.nodes q) x.nodes

-- ---- the part belongs to the publication

with_leaves : Part → List (List ℕ) → Part
with_leaves part leaves = record { leaves = leaves; fan = part.fan; places = part.places; texts = part.texts; cover = part.cover }

pub part_same : (hash : List ℕ → List ℕ) (k : Kept) (kept : IsKept k) (a : NearReply) → part_of k a ≡ near_part sha256 (publication_in hash k) kept.book a
unfolding with_leaves
part_same hash k kept a = ap (with_leaves (part_of k a)) (leaves_are (node_texts k.nodes) ∙ ap node_texts (leaves_same k kept))

-- a part that is the tree's own is so for each book of the publication
pub own_by : (hash : List ℕ → List ℕ) (k : Kept) (kept : IsKept k) (a : NearReply) → IsOwn hash sha256 (publication_in hash k) a → IsTreesOwn hash (part_of k a)
unfolding with_leaves
own_by hash k kept a own =
    let p = publication_in hash k in
    let order = leaf_order sha256 k.map.parts k.settings in
    let kinds : own.kind ≡ kept.kind = kind_same k.settings.method own.kind kept.kind own.is_book.method kept.is_book.method in
    let same : SameLeaves order own.book kept.book =
    same_leaves kept.kind k.map.parts k.settings order own.book kept.book (subst (λ (kind : Kind). IsBookOf kind k.map.parts k.settings order own.book) kinds own.is_book.book) kept.is_book.book in
    let part : near_part sha256 p own.book a ≡ part_of k a = ap (with_leaves (part_of k a)) (ap node_texts same.nodes) ∙ sym (part_same hash k kept a) in
    subst (IsTreesOwn hash) part own.nodes

abbrev pub own_of : (hash : List ℕ → List ℕ) (k : Kept) (kept : IsKept k) (a : NearReply) → IsTreesOwn hash (part_of k a) → IsOwn hash sha256 (publication_in hash k) a
own_of hash k kept a nodes = record {
  kind = kept.kind;
  book = kept.book;
  is_book = kept.is_book;
  nodes = subst (IsTreesOwn hash) (part_same hash k kept a) nodes;
}

-- ---- items that are the tree's own are the book's leaves

stand_in : (hash : List ℕ → List ℕ) (k : Kept) (q : NearQuery) (x : Within) (a : NearReply) (met : Met hash k q x a) → IsTreesOwn hash (part_of k a) → StandIn met.kept.book (leaf_order sha256 k.map.parts k.settings) (alone a.nodes)
stand_in hash k q x a met own =
    let kind = met.spelled.kind in
    let Fit = (node_leaf (kind_of_leaves kind k.numbers)).Fits in
    let items : All Fit a.nodes = subst (λ (l : leaf_kinds.LeafKind). All (node_leaf l).Fits a.nodes) (kind_of_items hash k a.header kind met.header met.spelled.method) met.good.leaves in
    let node_leaves : leaves_or_none (texts_in k 1) ≡ node_texts k.nodes = leaves_are (node_texts k.nodes) in
    record {
      nodes = λ n h.
          subst (λ (ls : List NodeLeaf). Contains ls n) (leaves_same k met.kept)
          (stands node_leaf_text Fit k.nodes a.nodes a.places (one_leaf (kind_of_leaves kind k.numbers)) met.spelled.nodes (λ m c. All-contains Fit a.nodes m items c)
          (λ i lt. omega (arith, own.rising.below i lt, ap (λ (ts : List (List ℕ)). length ts) node_leaves, length-map k.nodes node_leaf_text))
          (own.texts ∙ ap (λ (ts : List (List ℕ)). chosen_texts ts a.places) node_leaves) n h);
      pairs = λ l h. absurd (Contains-none l h);
    }

authentic_of : (hash : List ℕ → List ℕ) (k : Kept) (q : NearQuery) (x : Within) (a : NearReply) (met : Met hash k q x a) → ((kind : Kind) → KeepsTrue kind) → IsTreesOwn hash (part_of k a) → (n : NodeLeaf) → Contains a.nodes n → leaf met.kept.book n.id ≡ Some n
authentic_of hash k q x a met true_of own =
    let order = leaf_order sha256 k.map.parts k.settings in
    (true_of met.kept.kind k.map.parts k.settings order met.kept.book (alone a.nodes) met.kept.is_map (subst (IsOrderOf k.map.parts) met.kept.order met.kept.lists) met.kept.is_book.book
    (stand_in hash k q x a met own)).nodes

abbrev pub HasDistances : Type 0
HasDistances = (parts : Parts) → IsMap parts → DistanceLaws parts

within_of : (hash : List ℕ → List ℕ) (k : Kept) (q : NearQuery) (x : Within) (a : NearReply) (met : Met hash k q x a) → HasDistances → ((n : NodeLeaf) → Contains a.nodes n → leaf met.kept.book n.id ≡ Some n) → AreWithin k.map.parts q x.nodes
within_of hash k q x a met distances authentic =
    let parts : met.kept.book.parts ≡ k.map.parts = met.kept.is_book.book.of_parts in
    let is_map : IsMap met.kept.book.parts = subst IsMap (sym parts) met.kept.is_map in
    subst (λ (ps : Parts). AreWithin ps q x.nodes) parts (within_map met.kept.book a.nodes q is_map (distances met.kept.book.parts is_map) authentic met.complete x.nodes met.nodes)

pub right_of : (hash : List ℕ → List ℕ) (k : Kept) (q : NearQuery) (x : Within) (a : NearReply) (met : Met hash k q x a) → ((kind : Kind) → KeepsTrue kind) → HasDistances → IsTreesOwn hash (part_of k a)
    → IsRight hash sha256 (publication_in hash k) q x a
right_of hash k q x a met true_of distances own =
    let authentic = authentic_of hash k q x a met true_of own in
    record { own = own_of hash k met.kept a own; authentic = authentic; within = within_of hash k q x a met distances authentic }

-- ---- collisions

pub collides_of : (hash : List ℕ → List ℕ) (k : Kept) (kept : IsKept k) (a : NearReply) (two : TwoTexts) → AreCollision hash two.left two.right → Clashes hash (part_of k a) two → Collides hash sha256 (publication_in hash k) a two
collides_of hash k kept a two collision clash = record {
  collision = collision;
  not_own = λ own. clash.not_own (own_by hash k kept a own);
  kind = kept.kind;
  book = kept.book;
  is_book = kept.is_book;
  clash = subst (λ (part : Part). Clashes hash part two) (part_same hash k kept a) clash;
}
