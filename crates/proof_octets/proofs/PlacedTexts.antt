-- Answers whose node leaves are stored as texts in a list: the appended octets and their number.
use Rattle.std.proofs.Common.{◌≡◌, ◌+◌, ◌*◌, ◌++◌, ℕ, ◌^◌, ◌<◌, List, [], ◌∷◌, length, map, drop, get_or, refl, sym, ap, subst, arith, ◌∙◌}
use Rattle.std.specs.Prelude.{All}
use Rattle.std.specs.List.{AllByRecursion, flat_map}
use Rattle.std.specs.Int.{w16, w32, to_be_bytes}
use Rattle.std.proofs.lemmas.List.{get_or-map, length-append, length-map}
use Rattle.std.proofs.lemmas.List.Concat.{flat_map-cons}
use Rattle.std.proofs.lemmas.List.Elements.{All-map, recursion_from_All}
use Rattle.road_leaf.specs.declared.leaf.NodeLeaf.{NodeLeaf}
use Rattle.road_leaf.specs.declared.pair.PairLeaf.{PairLeaf}
use Rattle.road_leaf.specs.Leaves.{node_leaf_text, pair_leaf}
use Rattle.proof_octets.specs.declared.items.NodeItem.{NodeItem}
use Rattle.proof_octets.specs.declared.items.PairItem.{PairItem}
use Rattle.proof_octets.specs.declared.placed.PlacedAnswer.{PlacedAnswer}
use Rattle.proof_octets.specs.declared.reply.Answer as answers
use Rattle.proof_octets.specs.Good.{IsGood}
use Rattle.proof_octets.specs.Headers.{header_text}
use Rattle.proof_octets.specs.Placed.{text_at, with_leaves, HasLeaves, kind_text, items_at, placed_answer_text, CanPutAt, CanWritePlaced}
use Rattle.proof_octets.specs.Replies.{joined, joined_pairs, pair_item, pair_items, signature, digests, reply, reply_with, reply_of}
use Rattle.proof_octets.specs.Writing.{placed_text, item_text, items_text, way_text, front_text, back_text, answer_text, written, CanPut, CanWriteAnswer, CanWrite}
use Rattle.proof_octets.proofs.Good.{reply_is}
use Rattle.proof_octets.proofs.GoodHeader.{length-header}
use Rattle.proof_octets.proofs.ItemLemmas.{length-joined, length-joined_pairs}
use Rattle.proof_octets.proofs.TextRoom.{all_short}
use Rattle.proof_octets.proofs.Writable.{can_write_reply, front_first, written_same}

-- ---- the octets

pub one_each : (texts : List (List ℕ)) (places : List ℕ) (leaves : List NodeLeaf) → map (text_at texts) places ≡ map node_leaf_text leaves → length leaves ≡ length places
one_each texts places leaves e = omega (arith, ap (λ (ts : List (List ℕ)). length ts) e, length-map places (text_at texts), length-map leaves node_leaf_text)

texts_same : (texts : List (List ℕ)) (places : List ℕ) (leaves : List NodeLeaf) → map (text_at texts) places ≡ map node_leaf_text leaves → flat_map (λ p. placed_text p (text_at texts p)) places ≡ flat_map item_text (joined places leaves)
texts_same texts [] leaves e = refl
texts_same texts (p ∷ ps) [] e = absurd (omega (arith, one_each texts (p ∷ ps) [] e))
texts_same texts (p ∷ ps) (l ∷ ls) e =
    let at : ℕ → List ℕ = λ q. placed_text q (text_at texts q) in
    let item : NodeItem = record { place = p; leaf = l } in
    let head : text_at texts p ≡ node_leaf_text l = ap (λ (ts : List (List ℕ)). get_or ts 0 []) e in
    let tail : map (text_at texts) ps ≡ map node_leaf_text ls = ap (λ (ts : List (List ℕ)). drop 1 ts) e in
    flat_map-cons at p ps ∙ ap (λ (t : List ℕ). placed_text p t ++ flat_map at ps) head ∙ ap (λ (t : List ℕ). item_text item ++ t) (texts_same texts ps ls tail) ∙ sym (flat_map-cons item_text item (joined ps ls))

pub items_same : (texts : List (List ℕ)) (places : List ℕ) (leaves : List NodeLeaf) → map (text_at texts) places ≡ map node_leaf_text leaves → items_at texts places ≡ items_text places leaves
items_same texts places leaves e =
    ap (λ (n : ℕ). to_be_bytes w32 n ++ flat_map (λ p. placed_text p (text_at texts p)) places) (sym (length-joined places leaves (one_each texts places leaves e)))
    ∙ ap (λ (t : List ℕ). to_be_bytes w32 (length (joined places leaves)) ++ t) (texts_same texts places leaves e)

kind_first : (ids : List ℕ) (a : answers.Answer) → kind_text ids ++ answer_text a ≡ written (reply_with ids a)
kind_first [] a = refl
kind_first (id ∷ ids) a = refl

pub placed_same : (a : PlacedAnswer) (texts : List (List ℕ)) (leaves : List NodeLeaf) → HasLeaves a texts leaves → placed_answer_text a texts ≡ reply.spell (reply_of (with_leaves a leaves))
unfolding answer_text
placed_same a texts leaves has =
    ap (λ (t : List ℕ). kind_text a.route ++ (front_text a.header a.signature a.route ++ (t ++ back_text a.pair_places a.pairs a.node_cover a.pair_cover))) (items_same texts a.node_places leaves has.spelled)
    ∙ ap (λ (t : List ℕ). kind_text a.route ++ t) (front_first a.header a.signature a.route (items_text a.node_places leaves ++ back_text a.pair_places a.pairs a.node_cover a.pair_cover))
    ∙ kind_first a.route (with_leaves a leaves) ∙ written_same (reply_of (with_leaves a leaves)) has.fits

-- ---- the requirements

pub can_at : (texts : List (List ℕ)) (places : List ℕ) (leaves : List NodeLeaf) → All (λ p. p < length texts) places → map (text_at texts) places ≡ map node_leaf_text leaves → CanPut places leaves → CanPutAt texts places
can_at texts places leaves within spelled can = record {
  few = can.few;
  within = within;
  short = λ k d lt.
      let here : get_or (map node_leaf_text leaves) k [] ≡ text_at texts (get_or places k d) = ap (λ (ts : List (List ℕ)). get_or ts k []) (sym spelled) ∙ get_or-map (text_at texts) places k d [] lt in
      let in_texts : k < length (map node_leaf_text leaves) = omega (arith, lt, one_each texts places leaves spelled, length-map leaves node_leaf_text) in
      subst (λ (t : List ℕ). length t < 2 ^ 16) here (All-map (λ (t : List ℕ). length t < 2 ^ 16) node_leaf_text leaves can.texts k [] in_texts);
}

can_answer : (ids : List ℕ) (a : answers.Answer) → CanWrite (reply_with ids a) → CanWriteAnswer a
can_answer [] a can = can
can_answer (id ∷ ids) a can = can

pub can_place : (a : PlacedAnswer) (texts : List (List ℕ)) (leaves : List NodeLeaf) → HasLeaves a texts leaves → CanWritePlaced a texts
can_place a texts leaves has =
    let can = can_answer a.route (with_leaves a leaves) (can_write_reply (reply_of (with_leaves a leaves)) has.fits) in
    record {
      signature = can.signature;
      way = can.way;
      nodes = can_at texts a.node_places leaves has.within has.spelled can.nodes;
      pairs = can.pairs;
      few_pairs = can.few_pairs;
      node_cover = can.node_cover;
      pair_cover = can.pair_cover;
    }

pub placed_good : (a : PlacedAnswer) (texts : List (List ℕ)) (leaves : List NodeLeaf) → HasLeaves a texts leaves → IsGood (with_leaves a leaves)
placed_good a texts leaves has = (reply_is (with_leaves a leaves)).0 has.fits

-- ---- the number of octets

all_long : (xs : List (List ℕ)) → AllByRecursion (λ x. length x ≡ 32) xs → length (flat_map (λ x. x) xs) ≡ 32 * length xs
all_long [] each = omega arith
all_long (x ∷ xs) each = omega (arith, all_long xs each.1, each.0, ap (λ (t : List ℕ). length t) (flat_map-cons (λ (x : List ℕ). x) x xs), length-append x (flat_map (λ (x : List ℕ). x) xs))

pub digests_long : (xs : List (List ℕ)) → All (λ x. length x ≡ 32) xs → length (digests.spell xs) ≡ 4 + 32 * length xs
digests_long xs each = omega (arith, length-append (to_be_bytes w32 (length xs)) (flat_map (λ (x : List ℕ). x) xs), all_long xs (recursion_from_All (λ (x : List ℕ). length x ≡ 32) xs each))

pair_long : (i : PairItem) → length ((pair_item 0).spell i) ≡ 21
unfolding pair_leaf
pair_long i = refl

pub pairs_long : (places : List ℕ) (pairs : List PairLeaf) → length pairs ≡ length places → length (pair_items.spell (places, pairs)) ≡ 4 + 21 * length places
unfolding pair_items
pairs_long places pairs e =
    let items = joined_pairs places pairs in
    omega (arith, length-append (to_be_bytes w32 (length items)) (flat_map (pair_item 0).spell items), all_short (pair_item 0).spell 21 pair_long items, length-joined_pairs places pairs e)

kind_long : (ids : List ℕ) → length (kind_text ids) ≡ 1
kind_long [] = refl
kind_long (id ∷ ids) = refl

pub signature_long : (s : List ℕ) → length (signature.spell s) ≡ 2 + length s
signature_long s = omega (arith, length-append (to_be_bytes w16 (length s)) s)

-- this many octets
pub placed_long : (a : PlacedAnswer) (texts : List (List ℕ)) (leaves : List NodeLeaf) → HasLeaves a texts leaves
    → length (placed_answer_text a texts) ≡ 1 + (106 + length a.signature + length (way_text a.route)) + (4 + length (flat_map (λ p. placed_text p (text_at texts p)) a.node_places)) + (4 + 21 * length a.pair_places) + (4 + 32 * length a.node_cover) + (4 + 32 * length a.pair_cover)
placed_long a texts leaves has =
    let good = placed_good a texts leaves has in
    let h = header_text a.header in
    let s = signature.spell a.signature in
    let w = way_text a.route in
    let n = items_at texts a.node_places in
    let p = pair_items.spell (a.pair_places, a.pairs) in
    let nc = digests.spell a.node_cover in
    let pc = digests.spell a.pair_cover in
    omega (
      arith,
      kind_long a.route,
      length-header a.header good.header,
      signature_long a.signature,
      pairs_long a.pair_places a.pairs good.pairs.one_each,
      digests_long a.node_cover good.node_cover.sizes,
      digests_long a.pair_cover good.pair_cover.sizes,
      length-append (kind_text a.route) ((h ++ (s ++ w)) ++ (n ++ (p ++ (nc ++ pc)))),
      length-append (h ++ (s ++ w)) (n ++ (p ++ (nc ++ pc))),
      length-append h (s ++ w),
      length-append s w,
      length-append n (p ++ (nc ++ pc)),
      length-append (to_be_bytes w32 (length a.node_places)) (flat_map (λ p. placed_text p (text_at texts p)) a.node_places),
      length-append p (nc ++ pc),
      length-append nc pc,
    )
