-- The reply's format is exact: which replies it encodes, how its writer encodes them, and their length.
use Rattle.std.proofs.Common.{◌≡◌, ◌++◌, ◌+◌, ℕ, ◌^◌, ◌<◌, ◌≤◌, List, length, map, refl, sym, ap, subst, arith, append_assoc, ◌∙◌}
use Rattle.std.specs.Prelude.{All}
use Rattle.std.specs.List.{AllByRecursion, flat_map}
use Rattle.std.specs.Int.{w32, to_be_bytes}
use Rattle.std.proofs.lemmas.List.{length-append}
use Rattle.std.proofs.lemmas.List.Elements.{All-from_recursion, recursion_from_All}
use Rattle.octet_text.specs.Exact.{IsExact}
use Rattle.octet_text.proofs.Fields.{behind_exact, seq_exact, mapped_exact}
use Rattle.road_leaf.specs.declared.leaf.NodeLeaf.{NodeLeaf}
use Rattle.road_leaf.specs.Leaves.{node_leaf, node_leaf_text}
use Rattle.proof_octets.specs.declared.header.Header.{Header}
use Rattle.proof_octets.specs.Headers.{header, leaf_kind}
use Rattle.proof_octets.specs.Replies.{signature, node_item, node_items, joined, digests}
use Rattle.proof_octets.proofs.FormatLaws.{header_exact, signature_exact, node_items_exact, digests_exact}
use Rattle.proof_octets.proofs.Good.{cover_of, cover_fits, kind_is_short}
use Rattle.proof_octets.proofs.GoodHeader.{high_of, between_is, header_good, header_fits}
use Rattle.proof_octets.proofs.GoodItems.{node_placing, items_leaves, node_items_fit}
use Rattle.proof_octets.proofs.Lengths.{node_items_long}
use Rattle.proof_octets.proofs.Writable.{node_texts_same, items_texts, few_arcs}
use Rattle.proof_octets.specs.declared.near_reply.NearReply.{NearReply}
use Rattle.proof_octets.specs.NearReplies.{near_name, near_of, near_parts, near_reply, IsGoodNear}
use Rattle.proof_octets.specs.NearWriting.{near_front, near_text, CanWriteNear}

pub near_exact : IsExact near_reply
unfolding near_reply
near_exact = behind_exact near_name _ (mapped_exact near_of near_parts _
    (seq_exact _ _ header_exact (λ h.
    seq_exact _ _ signature_exact (λ _.
    seq_exact _ _ (node_items_exact (leaf_kind h)) (λ _.
    digests_exact))))
    (λ p fits. refl) (λ a. refl))

-- ---- which replies fit

pub near_good : (a : NearReply) → near_reply.Fits a → IsGoodNear a
unfolding near_reply node_items
near_good a fits =
    let kind = leaf_kind a.header in
    let nodes = joined a.places a.nodes in
    let rows = fits.1.1.0 in
    let leaves : map (λ i. i.leaf) nodes ≡ a.nodes = ap (λ (p : List ℕ × List NodeLeaf). p.1) rows.1 in
    record {
      header = header_good a.header fits.0;
      signature = high_of 0 1452 (length a.signature) fits.1.0.0.1;
      nodes = node_placing kind a.places a.nodes nodes rows.0.0.0 rows.0.1.1 (ap (λ (p : List ℕ × List NodeLeaf). p.0) rows.1) leaves;
      leaves = subst (λ (ls : List NodeLeaf). All (node_leaf kind).Fits ls) leaves (All-from_recursion (node_leaf kind).Fits (map (λ i. i.leaf) nodes) (items_leaves kind 0 nodes rows.0.1.1));
      cover = cover_of a.cover fits.1.1.1;
    }

pub near_fits : (a : NearReply) → IsGoodNear a → near_reply.Fits a
unfolding near_reply
near_fits a good = (
  header_fits a.header good.header,
  (
    ((omega (arith, good.signature), between_is 0 1452 (length a.signature) (omega arith) good.signature), (refl, refl)),
    (node_items_fit (leaf_kind a.header) a.places a.nodes (kind_is_short a.header good.header) good.nodes good.leaves, cover_fits a.cover good.cover),
  ),
)

-- ---- the octets that the writer appends, and its requirements

-- the prefix of a reply, field by field
pub near_first : (h : Header) (s rest : List ℕ) → near_front h s ++ rest ≡ near_name ++ (header.spell h ++ (signature.spell s ++ rest))
near_first h s rest = append_assoc near_name (header.spell h ++ signature.spell s) rest ∙ ap (λ (t : List ℕ). near_name ++ t) (append_assoc (header.spell h) (signature.spell s) rest)

pub near_written : (a : NearReply) → near_reply.Fits a → near_text a ≡ near_reply.spell a
unfolding near_reply near_text node_items
near_written a fits =
    ap (λ (t : List ℕ). near_name ++ (header.spell a.header ++ (signature.spell a.signature ++ ((to_be_bytes w32 (length (joined a.places a.nodes)) ++ t) ++ digests.spell a.cover))))
    (sym (node_texts_same (leaf_kind a.header) 0 (joined a.places a.nodes) fits.1.1.0.0.1.1))

pub can_write : (a : NearReply) → near_reply.Fits a → CanWriteNear a
unfolding near_reply node_items
can_write a fits =
    let good = near_good a fits in
    let rows = fits.1.1.0 in
    record {
      signature = omega (arith, good.signature);
      nodes = record {
        lengths = good.nodes.one_each;
        few = good.nodes.few;
        arcs = All-from_recursion (λ l. length l.arcs < 2 ^ 16) a.nodes (few_arcs (leaf_kind a.header) a.nodes (recursion_from_All (node_leaf (leaf_kind a.header)).Fits a.nodes good.leaves));
        texts = All-from_recursion (λ l. length (node_leaf_text l) < 2 ^ 16) a.nodes
            (subst (λ (ls : List NodeLeaf). AllByRecursion (λ l. length (node_leaf_text l) < 2 ^ 16) ls) (ap (λ (p : List ℕ × List NodeLeaf). p.1) rows.1)
            (items_texts (leaf_kind a.header) 0 (joined a.places a.nodes) rows.0.1.1));
      };
      cover = good.cover.few;
    }

-- ---- the lengths of the leaves' texts

fifth : (a b c d e : List ℕ) → length d ≤ length (a ++ (b ++ (c ++ (d ++ e))))
fifth a b c d e = omega (arith, length-append a (b ++ (c ++ (d ++ e))), length-append b (c ++ (d ++ e)), length-append c (d ++ e), length-append d e)

pub leaves_within : (a : NearReply) → IsGoodNear a → length a.nodes + length (flat_map node_leaf_text a.nodes) < length (near_reply.spell a)
unfolding near_reply node_items
leaves_within a good =
    let kind = leaf_kind a.header in
    let text = flat_map (node_item kind 0).spell (joined a.places a.nodes) in
    let front = to_be_bytes w32 (length (joined a.places a.nodes)) in
    omega (
      arith,
      node_items_long kind a.places a.nodes good.nodes.one_each (recursion_from_All (node_leaf kind).Fits a.nodes good.leaves),
      length-append front text,
      fifth near_name (header.spell a.header) (signature.spell a.signature) (front ++ text) (digests.spell a.cover),
    )
