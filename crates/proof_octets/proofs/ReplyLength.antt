-- The greatest number of octets in a reply, by the number of its leaves and digests.
use Rattle.std.proofs.Common.{◌≡◌, ◌+◌, ◌-◌, ◌*◌, ◌++◌, ℕ, ◌^◌, ◌<◌, ◌≤◌, List, [], ◌∷◌, length, refl, ap, arith}
use Rattle.std.specs.List.{AllByRecursion, flat_map}
use Rattle.std.specs.Int.{w32, to_be_bytes}
use Rattle.std.proofs.lemmas.List.{length-append}
use Rattle.std.proofs.lemmas.List.Concat.{flat_map-cons}
use Rattle.std.proofs.lemmas.List.Elements.{recursion_from_All}
use Rattle.road_leaf.specs.declared.leaf.LeafKind.{LeafKind}
use Rattle.road_leaf.specs.declared.leaf.NodeLeaf.{NodeLeaf}
use Rattle.road_leaf.specs.Leaves.{node_leaf, node_leaf_text, octets_above}
use Rattle.road_leaf.proofs.LeafLaws.{leaf_same, leaf_short}
use Rattle.proof_octets.specs.declared.header.Header.{Header}
use Rattle.proof_octets.specs.declared.items.NodeItem.{NodeItem}
use Rattle.proof_octets.specs.declared.near_reply.NearReply.{NearReply}
use Rattle.proof_octets.specs.declared.reply.Answer as answers
use Rattle.proof_octets.specs.declared.reply.Reply.TheVariants as replies
use Rattle.proof_octets.specs.Good.{IsGoodHeader, IsGood}
use Rattle.proof_octets.specs.Headers.{header_text, leaf_kind}
use Rattle.proof_octets.specs.NearReplies.{near_name, near_reply, IsGoodNear}
use Rattle.proof_octets.specs.NearWriting.{near_text}
use Rattle.proof_octets.specs.Replies.{joined, pair_items, signature, digests, reply, reply_with, reply_of, reply_text}
use Rattle.proof_octets.specs.Writing.{item_text, items_text, way_text, answer_text, written}
use Rattle.proof_octets.proofs.Good.{kind_has_few, reply_is}
use Rattle.proof_octets.proofs.GoodHeader.{length-header}
use Rattle.proof_octets.proofs.ItemLemmas.{length-joined}
use Rattle.proof_octets.proofs.NearFormat.{near_fits, near_written}
use Rattle.proof_octets.proofs.PlacedTexts.{digests_long, pairs_long, signature_long}
use Rattle.proof_octets.proofs.TextRoom.{all_short}
use Rattle.proof_octets.proofs.Writable.{written_same}

-- ---- node items

items_most : (kind : LeafKind) (ps : List ℕ) (ls : List NodeLeaf) → octets_above kind ≤ 4228 → length ls ≡ length ps → AllByRecursion (node_leaf kind).Fits ls
    → length (flat_map item_text (joined ps ls)) ≤ 4234 * length ps
items_most kind [] ls above e fits = omega arith
items_most kind (p ∷ ps) [] above e fits = omega arith
items_most kind (p ∷ ps) (l ∷ ls) above e fits =
    let item : NodeItem = record { place = p; leaf = l } in
    let size : length (item_text item) ≡ 6 + length (node_leaf_text l) = omega arith in
    omega (
      arith,
      items_most kind ps ls above (omega (arith, e)) fits.1,
      above,
      leaf_short kind l fits.0,
      ap length (leaf_same kind l fits.0),
      size,
      ap length (flat_map-cons item_text item (joined ps ls)),
      length-append (item_text item) (flat_map item_text (joined ps ls)),
    )

nodes_most : (h : Header) (ps : List ℕ) (ls : List NodeLeaf) → IsGoodHeader h → length ls ≡ length ps → AllByRecursion (node_leaf (leaf_kind h)).Fits ls
    → length (items_text ps ls) ≤ 4 + 4234 * length ps
nodes_most h ps ls good e fits =
    omega (
      arith,
      items_most (leaf_kind h) ps ls (kind_has_few h good) e fits,
      length-append (to_be_bytes w32 (length (joined ps ls))) (flat_map item_text (joined ps ls)),
    )

-- ---- answers

way_most : (ids : List ℕ) → length (way_text ids) ≤ 4 + 4 * length ids
way_most [] = omega arith
way_most (id ∷ ids) = omega (arith, length-append (to_be_bytes w32 (length (id ∷ ids))) (flat_map (to_be_bytes w32) (id ∷ ids)), all_short (to_be_bytes w32) 4 (λ n. omega arith) (id ∷ ids))

answer_most : (a : answers.Answer) → IsGood a → length (answer_text a) ≤ 1578 + 4 * length a.items.route + 4234 * length a.node_places + 21 * length a.pair_places + 32 * length a.node_cover + 32 * length a.pair_cover
unfolding answer_text
answer_most a good =
    let h = header_text a.header in
    let s = signature.spell a.signature in
    let w = way_text a.items.route in
    let n = items_text a.node_places a.items.nodes in
    let p = pair_items.spell (a.pair_places, a.items.pairs) in
    let nc = digests.spell a.node_cover in
    let pc = digests.spell a.pair_cover in
    omega (
      arith,
      good.signature,
      length-header a.header good.header,
      signature_long a.signature,
      way_most a.items.route,
      nodes_most a.header a.node_places a.items.nodes good.header good.nodes.one_each (recursion_from_All (node_leaf (leaf_kind a.header)).Fits a.items.nodes good.leaves),
      pairs_long a.pair_places a.items.pairs good.pairs.one_each,
      digests_long a.node_cover good.node_cover.sizes,
      digests_long a.pair_cover good.pair_cover.sizes,
      length-append h (s ++ (w ++ (n ++ (p ++ (nc ++ pc))))),
      length-append s (w ++ (n ++ (p ++ (nc ++ pc)))),
      length-append w (n ++ (p ++ (nc ++ pc))),
      length-append n (p ++ (nc ++ pc)),
      length-append p (nc ++ pc),
      length-append nc pc,
    )

-- the reply has one more octet
written_long : (ids : List ℕ) (a : answers.Answer) → length (written (reply_with ids a)) ≡ 1 + length (answer_text a)
written_long [] a = omega arith
written_long (id ∷ ids) a = omega arith

-- An answer over at most 65,536 node leaves and 2,097,152 pair leaves, with covers of at most 32 times as many
-- digests.
pub answer_few : (a : answers.Answer) → IsGood a → length a.node_places ≤ 65536 → length a.pair_places ≤ 2097152 → length a.node_cover ≤ 2097152 → length a.pair_cover ≤ 67108864
    → length (reply_text (reply_of a)) < 2 ^ 32 - 16
answer_few a good nodes pairs node_cover pair_cover =
    omega (
      arith,
      answer_most a good,
      good.route_high,
      nodes,
      pairs,
      node_cover,
      pair_cover,
      written_long a.items.route a,
      ap length (written_same (reply_of a) ((reply_is a).1 good)),
    )

-- ---- replies over the nodes within a radius

near_most : (a : NearReply) → IsGoodNear a → length (near_text a) ≤ 1570 + 4234 * length a.places + 32 * length a.cover
unfolding near_text
near_most a good =
    let h = header_text a.header in
    let s = signature.spell a.signature in
    let n = items_text a.places a.nodes in
    let c = digests.spell a.cover in
    omega (
      arith,
      good.signature,
      length-header a.header good.header,
      signature_long a.signature,
      nodes_most a.header a.places a.nodes good.header good.nodes.one_each (recursion_from_All (node_leaf (leaf_kind a.header)).Fits a.nodes good.leaves),
      digests_long a.cover good.cover.sizes,
      length-append near_name (h ++ (s ++ (n ++ c))),
      length-append h (s ++ (n ++ c)),
      length-append s (n ++ c),
      length-append n c,
    )

-- over at most 65,536 leaves, with a cover of at most 32 times as many digests
pub near_few : (a : NearReply) → IsGoodNear a → length a.places ≤ 65536 → length a.cover ≤ 2097152 → length (near_reply.spell a) < 2 ^ 32 - 16
near_few a good nodes cover = omega (arith, near_most a good, nodes, cover, ap length (near_written a (near_fits a good)))

-- ---- the others

-- one octet states that an end is unknown
pub unknown_long : length (reply_text replies.UnknownNode) ≡ 1
unfolding reply
unknown_long = refl
