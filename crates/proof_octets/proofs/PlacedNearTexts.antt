-- Replies whose leaves are stored as texts in a list: the appended octets and their number.
use Rattle.std.proofs.Common.{◌≡◌, ◌+◌, ◌*◌, ◌++◌, ℕ, List, length, ap, arith, ◌∙◌}
use Rattle.std.specs.List.{flat_map}
use Rattle.std.specs.Int.{w32, to_be_bytes}
use Rattle.std.proofs.lemmas.List.{length-append}
use Rattle.road_leaf.specs.declared.leaf.NodeLeaf.{NodeLeaf}
use Rattle.proof_octets.specs.declared.placed_near.PlacedNear.{PlacedNear}
use Rattle.proof_octets.specs.Headers.{header_text}
use Rattle.proof_octets.specs.NearReplies.{near_name, near_reply}
use Rattle.proof_octets.specs.NearWriting.{near_front, near_text}
use Rattle.proof_octets.specs.Placed.{text_at, items_at}
use Rattle.proof_octets.specs.PlacedNear.{near_with, HasNearLeaves, placed_near_text, CanWritePlacedNear}
use Rattle.proof_octets.specs.Replies.{signature, digests}
use Rattle.proof_octets.specs.Writing.{placed_text, items_text}
use Rattle.proof_octets.proofs.GoodHeader.{length-header}
use Rattle.proof_octets.proofs.NearFormat.{near_good, near_first, near_written, can_write}
use Rattle.proof_octets.proofs.PlacedTexts.{items_same, can_at, digests_long, signature_long}

pub near_same : (a : PlacedNear) (texts : List (List ℕ)) (leaves : List NodeLeaf) → HasNearLeaves a texts leaves → placed_near_text a texts ≡ near_reply.spell (near_with a leaves)
unfolding near_text
near_same a texts leaves has =
    ap (λ (t : List ℕ). near_front a.header a.signature ++ (t ++ digests.spell a.cover)) (items_same texts a.places leaves has.spelled)
    ∙ near_first a.header a.signature (items_text a.places leaves ++ digests.spell a.cover) ∙ near_written (near_with a leaves) has.fits

pub can_near : (a : PlacedNear) (texts : List (List ℕ)) (leaves : List NodeLeaf) → HasNearLeaves a texts leaves → CanWritePlacedNear a texts
can_near a texts leaves has =
    let can = can_write (near_with a leaves) has.fits in
    record { signature = can.signature; nodes = can_at texts a.places leaves has.within has.spelled can.nodes; cover = can.cover }

-- this many octets
pub near_long : (a : PlacedNear) (texts : List (List ℕ)) (leaves : List NodeLeaf) → HasNearLeaves a texts leaves
    → length (placed_near_text a texts) ≡ 110 + length a.signature + (4 + length (flat_map (λ p. placed_text p (text_at texts p)) a.places)) + (4 + 32 * length a.cover)
near_long a texts leaves has =
    let good = near_good (near_with a leaves) has.fits in
    let h = header_text a.header in
    let s = signature.spell a.signature in
    let n = items_at texts a.places in
    let c = digests.spell a.cover in
    omega (
      arith,
      length-header a.header good.header,
      signature_long a.signature,
      digests_long a.cover good.cover.sizes,
      length-append (near_name ++ (h ++ s)) (n ++ c),
      length-append near_name (h ++ s),
      length-append h s,
      length-append n c,
      length-append (to_be_bytes w32 (length a.places)) (flat_map (λ p. placed_text p (text_at texts p)) a.places),
    )
