-- A comparison with a held book gives the same result as one with its publication.
use Rattle.std.proofs.Common.{◌≡◌, ℕ, inl, inr, Some, List, length, Ok, sym, ap, subst, arith, ◌∙◌}
use Rattle.std.specs.Prelude.{All}
use Rattle.std.specs.List.{Contains}
use Rattle.std.proofs.lemmas.List.Elements.{All-contains}
use Rattle.std.proofs.lemmas.List.{length-map}
use Rattle.sha2.specs.Sha256.{sha256}
use Rattle.road_map.specs.declared.parts.Parts.{Parts}
use Rattle.road_map.specs.Maps.{IsMap}
use Rattle.road_leaf.specs.declared.leaf.LeafKind as leaf_kinds
use Rattle.road_leaf.specs.declared.leaf.NodeLeaf.{NodeLeaf}
use Rattle.road_leaf.specs.declared.pair.PairLeaf.{PairLeaf}
use Rattle.road_leaf.specs.Leaves.{node_leaf, node_leaf_text, pair_leaf}
use Rattle.book_model.specs.declared.items.Query.{Query}
use Rattle.book_model.specs.declared.settings.Numbers.{Numbers}
use Rattle.book_model.specs.Books.{Kind, kind_of, leaves_of, leaf_order, IsBookOf}
use Rattle.merkle_cover.specs.Covers.{chosen_texts}
use Rattle.merkle_cover.specs.declared.clashes.TwoTexts.{TwoTexts}
use Rattle.proof_judge.specs.Judgement.{Judged}
use Rattle.proof_judge.specs.Apart.{JudgedApart}
use Rattle.proof_method.specs.Gathering.{IsAuthentic, IsOrderOf, AreUnjoined, StandIn}
use Rattle.proof_method.specs.Laws.{IsSound, IsSoundApart, KeepsTrue}
use Rattle.proof_octets.specs.declared.header.Header.{Header}
use Rattle.proof_octets.specs.declared.reply.Answer as answers
use Rattle.proof_octets.specs.Good.{IsGood}
use Rattle.proof_octets.specs.Headers.{leaf_kind}
use Rattle.route_client.specs.declared.accepted.Checked.{Checked}
use Rattle.route_client.specs.declared.accepted.Checked.TheVariants.{Route, Apart}
use Rattle.route_client.specs.Truth.{HoldsIn}
use Rattle.route_client.specs.Verdicts.{Says}
use Rattle.route_server.specs.Fitting.{kind_of_leaves}
use Rattle.route_server.specs.Headers.{node_texts, pair_texts, header_of}
use Rattle.route_server.specs.Keeping.{Kept, IsKept, HasSpellings, header_in, publication_in, texts_in}
use Rattle.route_server.proofs.Answering.{code_is, leaf_kind_is}
use Rattle.route_server.proofs.OneHeader.{SameLeaves, same_leaves, kind_same}
use Rattle.route_audit.specs.Comparing.{leaves_or_none, node_part_of, pair_part_of}
use Rattle.octet_text.specs.Collisions.{AreCollision}
use Rattle.route_audit.specs.Evidence.{Part, IsTreesOwn, IsOwn, IsRight, ClashesFirst, Collides, node_part, pair_part}
use Rattle.route_audit.proofs.Authentic.{one_leaf, one_pair, stands}
use Rattle.route_audit.proofs.Folded.{leaves_are}

-- a held book, and an accepted answer with its header
pub record Met (hash : List ℕ → List ℕ) (k : Kept) (q : Query) (x : Checked) (a : answers.Answer) : Type 0 where
  pub kept : IsKept k
  pub spelled : HasSpellings k
  pub good : IsGood a
  pub header : a.header ≡ header_in hash k
  pub kind : Kind
  pub method : kind_of a.header.method ≡ Some kind
  pub says : Says kind a q x

-- ---- the parts belong to the publication

pub part_with : Part → List (List ℕ) → Part
part_with part leaves = record { leaves = leaves; fan = part.fan; places = part.places; texts = part.texts; cover = part.cover }

pub leaves_same : (k : Kept) (kept : IsKept k) → k.nodes ≡ leaves_of kept.book (leaf_order sha256 k.map.parts k.settings)
leaves_same k kept = kept.nodes ∙ ap (leaves_of kept.book) kept.order

pub nodes_same : (hash : List ℕ → List ℕ) (k : Kept) (kept : IsKept k) (a : answers.Answer) → node_part_of k a ≡ node_part sha256 (publication_in hash k) kept.book a
unfolding part_with
nodes_same hash k kept a = ap (part_with (node_part_of k a)) (leaves_are (node_texts k.nodes) ∙ ap node_texts (leaves_same k kept))

pub pairs_same : (hash : List ℕ → List ℕ) (k : Kept) (kept : IsKept k) (a : answers.Answer) → pair_part_of k a ≡ pair_part (publication_in hash k) kept.book a
unfolding part_with
pairs_same hash k kept a = ap (part_with (pair_part_of k a)) (leaves_are (pair_texts k.pairs) ∙ ap pair_texts kept.pairs)

-- a part that is the trees' own is so for each book of the publication
pub own_by : (hash : List ℕ → List ℕ) (k : Kept) (kept : IsKept k) (a : answers.Answer) → IsOwn hash sha256 (publication_in hash k) a → IsTreesOwn hash (node_part_of k a) × IsTreesOwn hash (pair_part_of k a)
unfolding part_with
own_by hash k kept a own =
    let p = publication_in hash k in
    let order = leaf_order sha256 k.map.parts k.settings in
    let kinds : own.kind ≡ kept.kind = kind_same k.settings.method own.kind kept.kind own.is_book.method kept.is_book.method in
    let same : SameLeaves order own.book kept.book =
    same_leaves kept.kind k.map.parts k.settings order own.book kept.book (subst (λ (kind : Kind). IsBookOf kind k.map.parts k.settings order own.book) kinds own.is_book.book) kept.is_book.book in
    let nodes : node_part sha256 p own.book a ≡ node_part_of k a = ap (part_with (node_part_of k a)) (ap node_texts same.nodes) ∙ sym (nodes_same hash k kept a) in
    let pairs : pair_part p own.book a ≡ pair_part_of k a = ap (part_with (pair_part_of k a)) (ap pair_texts same.pairs) ∙ sym (pairs_same hash k kept a) in
    (subst (IsTreesOwn hash) nodes own.nodes, subst (IsTreesOwn hash) pairs own.pairs)

abbrev pub own_of : (hash : List ℕ → List ℕ) (k : Kept) (kept : IsKept k) (a : answers.Answer) → IsTreesOwn hash (node_part_of k a) → IsTreesOwn hash (pair_part_of k a) → IsOwn hash sha256 (publication_in hash k) a
own_of hash k kept a nodes pairs = record {
  kind = kept.kind;
  book = kept.book;
  is_book = kept.is_book;
  nodes = subst (IsTreesOwn hash) (nodes_same hash k kept a) nodes;
  pairs = subst (IsTreesOwn hash) (pairs_same hash k kept a) pairs;
}

-- ---- items that are the trees' own are authentic

pub kind_of_items : (hash : List ℕ → List ℕ) (k : Kept) (h : Header) (kind : Kind) → h ≡ header_in hash k → kind_of k.settings.method ≡ Some kind → leaf_kind h ≡ kind_of_leaves kind k.numbers
unfolding header_of
kind_of_items hash k h kind e method =
    leaf_kind_is h kind (ap (λ (x : Header). x.method) e ∙ code_is k.settings.method kind method) ∙ ap (λ (x : Header). kind_of_leaves kind x.numbers) e

stand_in : (hash : List ℕ → List ℕ) (k : Kept) (q : Query) (x : Checked) (a : answers.Answer) (met : Met hash k q x a) → IsTreesOwn hash (node_part_of k a) → IsTreesOwn hash (pair_part_of k a)
    → StandIn met.kept.book (leaf_order sha256 k.map.parts k.settings) a.items
stand_in hash k q x a met nodes pairs =
    let kind = met.spelled.kind in
    let Fit = (node_leaf (kind_of_leaves kind k.numbers)).Fits in
    let items : All Fit a.items.nodes = subst (λ (l : leaf_kinds.LeafKind). All (node_leaf l).Fits a.items.nodes) (kind_of_items hash k a.header kind met.header met.spelled.method) met.good.leaves in
    let node_leaves : leaves_or_none (texts_in k 1) ≡ node_texts k.nodes = leaves_are (node_texts k.nodes) in
    let pair_leaves : leaves_or_none (texts_in k 2) ≡ pair_texts k.pairs = leaves_are (pair_texts k.pairs) in
    record {
      nodes = λ n h.
          subst (λ (ls : List NodeLeaf). Contains ls n) (leaves_same k met.kept)
          (stands node_leaf_text Fit k.nodes a.items.nodes a.node_places (one_leaf (kind_of_leaves kind k.numbers)) met.spelled.nodes (λ m c. All-contains Fit a.items.nodes m items c)
          (λ i lt. omega (arith, nodes.rising.below i lt, ap (λ (ts : List (List ℕ)). length ts) node_leaves, length-map k.nodes node_leaf_text))
          (nodes.texts ∙ ap (λ (ts : List (List ℕ)). chosen_texts ts a.node_places) node_leaves) n h);
      pairs = λ l h.
          subst (λ (ls : List PairLeaf). Contains ls l) met.kept.pairs
          (stands pair_leaf.spell pair_leaf.Fits k.pairs a.items.pairs a.pair_places one_pair met.spelled.pairs (λ m c. All-contains pair_leaf.Fits a.items.pairs m met.good.pair_leaves c)
          (λ i lt. omega (arith, pairs.rising.below i lt, ap (λ (ts : List (List ℕ)). length ts) pair_leaves, length-map k.pairs pair_leaf.spell))
          (pairs.texts ∙ ap (λ (ts : List (List ℕ)). chosen_texts ts a.pair_places) pair_leaves) l h);
    }

authentic_of : (hash : List ℕ → List ℕ) (k : Kept) (q : Query) (x : Checked) (a : answers.Answer) (met : Met hash k q x a) → ((kind : Kind) → KeepsTrue kind)
    → IsTreesOwn hash (node_part_of k a) → IsTreesOwn hash (pair_part_of k a) → IsAuthentic met.kept.book a.items
authentic_of hash k q x a met true_of nodes pairs =
    let order = leaf_order sha256 k.map.parts k.settings in
    true_of met.kept.kind k.map.parts k.settings order met.kept.book a.items met.kept.is_map (subst (IsOrderOf k.map.parts) met.kept.order met.kept.lists) met.kept.is_book.book
    (stand_in hash k q x a met nodes pairs)

-- what a successful judgement of authentic items implies, with a route or without one
pub record SoundLaws : Type 0 where
  pub sound : (kind : Kind) → IsSound kind
  pub sound_apart : (kind : Kind) → IsSoundApart kind

-- an answer over the book's own items and numbers is true of the map
holds_by : (k : Kept) (kept : IsKept k) (q : Query) (x : Checked) (a : answers.Answer) → SoundLaws → IsAuthentic kept.book a.items → a.header.numbers ≡ kept.book.numbers → Says kept.kind a q x → HoldsIn k.map.parts q x
holds_by k kept q (Route x) a laws authentic numbers says =
    let book = kept.book in
    let parts : book.parts ≡ k.map.parts = kept.is_book.book.of_parts in
    let judged : Judged kept.kind book.numbers a.items q (Ok x.length) = subst (λ (n : Numbers). Judged kept.kind n a.items q (Ok x.length)) numbers says.judged in
    let found = laws.sound kept.kind book a.items q x.length (subst IsMap (sym parts) kept.is_map) kept.vectors authentic judged in
    subst (λ (r : List ℕ). HoldsIn k.map.parts q (Route (record { length = x.length; route = r; version = x.version; header = x.header }))) (sym says.route)
    (subst (λ (ps : Parts). HoldsIn ps q (Route (record { length = x.length; route = a.items.route; version = x.version; header = x.header }))) parts found)
holds_by k kept q (Apart version header) a laws authentic numbers says =
    let book = kept.book in
    let parts : book.parts ≡ k.map.parts = kept.is_book.book.of_parts in
    let judged : JudgedApart kept.kind book.numbers a.items q (Ok tt) = subst (λ (n : Numbers). JudgedApart kept.kind n a.items q (Ok tt)) numbers says.judged in
    subst (λ (ps : Parts). AreUnjoined ps q) parts (laws.sound_apart kept.kind book a.items q (subst IsMap (sym parts) kept.is_map) kept.vectors authentic judged)

holds_of : (hash : List ℕ → List ℕ) (k : Kept) (q : Query) (x : Checked) (a : answers.Answer) (met : Met hash k q x a) → SoundLaws → IsAuthentic met.kept.book a.items → HoldsIn k.map.parts q x
unfolding header_of
holds_of hash k q x a met laws authentic =
    let method : a.header.method ≡ k.settings.method = ap (λ (h : Header). h.method) met.header in
    let kinds : met.kind ≡ met.kept.kind = kind_same k.settings.method met.kind met.kept.kind (ap kind_of (sym method) ∙ met.method) met.kept.is_book.method in
    let numbers : a.header.numbers ≡ met.kept.book.numbers = ap (λ (h : Header). h.numbers) met.header ∙ met.kept.numbers in
    holds_by k met.kept q x a laws authentic numbers (subst (λ (kind : Kind). Says kind a q x) kinds met.says)

pub right_of : (hash : List ℕ → List ℕ) (k : Kept) (q : Query) (x : Checked) (a : answers.Answer) (met : Met hash k q x a) → ((kind : Kind) → KeepsTrue kind) → SoundLaws
    → IsTreesOwn hash (node_part_of k a) → IsTreesOwn hash (pair_part_of k a) → IsRight hash sha256 (publication_in hash k) q x a
right_of hash k q x a met true_of laws nodes pairs =
    let authentic = authentic_of hash k q x a met true_of nodes pairs in
    record { own = own_of hash k met.kept a nodes pairs; authentic = authentic; holds = holds_of hash k q x a met laws authentic }

-- ---- collisions

clash_moved : (hash : List ℕ → List ℕ) (k : Kept) (kept : IsKept k) (a : answers.Answer) (two : TwoTexts) → ClashesFirst hash (node_part_of k a) (pair_part_of k a) two
    → ClashesFirst hash (node_part sha256 (publication_in hash k) kept.book a) (pair_part (publication_in hash k) kept.book a) two
clash_moved hash k kept a two clash =
    subst (λ (part : Part). ClashesFirst hash (node_part sha256 (publication_in hash k) kept.book a) part two) (pairs_same hash k kept a)
    (subst (λ (part : Part). ClashesFirst hash part (pair_part_of k a) two) (nodes_same hash k kept a) clash)

not_both : (hash : List ℕ → List ℕ) (one other : Part) (two : TwoTexts) → ClashesFirst hash one other two → IsTreesOwn hash one → IsTreesOwn hash other → ⊥
not_both hash one other two (inl clash) own also = clash.not_own own
not_both hash one other two (inr clash) own also = clash.1.not_own also

pub collides_of : (hash : List ℕ → List ℕ) (k : Kept) (kept : IsKept k) (a : answers.Answer) (two : TwoTexts) → AreCollision hash two.left two.right → ClashesFirst hash (node_part_of k a) (pair_part_of k a) two
    → Collides hash sha256 (publication_in hash k) a two
collides_of hash k kept a two collision clash = record {
  collision = collision;
  not_own = λ own. let both = own_by hash k kept a own in not_both hash (node_part_of k a) (pair_part_of k a) two clash both.0 both.1;
  kind = kept.kind;
  book = kept.book;
  is_book = kept.is_book;
  clash = clash_moved hash k kept a two clash;
}
