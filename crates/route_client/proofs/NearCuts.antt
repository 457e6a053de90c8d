-- The positions of a reply's leaf texts in the octets that encode it.
use Rattle.std.proofs.Common.{◌≡◌, ℕ, ◌+◌, List, [], length, map, sym, ◌∙◌, arith}
use Rattle.std.proofs.lemmas.List.{length-map}
use Rattle.std.specs.List.{flat_map}
use Rattle.std.specs.Int.{w32, to_be_bytes}
use Rattle.road_leaf.specs.Leaves.{node_leaf_text}
use Rattle.proof_octets.specs.Headers.{header}
use Rattle.proof_octets.specs.Replies.{signature, digests, joined}
use Rattle.proof_octets.specs.Writing.{item_text}
use Rattle.proof_octets.proofs.GoodHeader.{length-header}
use Rattle.merkle_cover.specs.declared.cuts.Cut.{Cut}
use Rattle.route_client.specs.Cutting.{cuts_at}
use Rattle.route_client.proofs.CutLemmas.{AreCut, Shown, items_stand, nodes_cut, shown}
use Rattle.proof_octets.specs.declared.near_reply.NearReply.{NearReply}
use Rattle.proof_octets.specs.NearReplies.{near_name, near_reply, IsGoodNear}
use Rattle.proof_octets.specs.NearWriting.{near_text}
use Rattle.proof_octets.proofs.NearFormat.{near_fits, near_written}

abbrev pub items_at : NearReply → ℕ
items_at a = 114 + length a.signature

pub reply_cut : (a : NearReply) (octets : List ℕ) → IsGoodNear a → octets ≡ near_reply.spell a → AreCut octets 6 (items_at a) (map node_leaf_text a.nodes) (digests.spell a.cover)
unfolding near_text
reply_cut a octets good is =
    let h = header.spell a.header in
    let g = signature.spell a.signature in
    let c = to_be_bytes w32 (length (joined a.places a.nodes)) in
    let y = flat_map item_text (joined a.places a.nodes) in
    let same : octets ≡ near_text a = is ∙ sym (near_written a (near_fits a good)) in
    let first : items_at a ≡ length near_name + (length h + (length g + (length {A = ℕ} [] + length c))) = omega (arith, length-header a.header good.header) in
    let at = items_stand octets near_name h g [] c y (digests.spell a.cover) (items_at a) same first in
    nodes_cut octets (items_at a) a.places a.nodes (digests.spell a.cover) good.nodes.one_each at.within at.is

pub reply_shown : (a : NearReply) (octets : List ℕ) (cuts : List Cut) → IsGoodNear a → octets ≡ near_reply.spell a → cuts ≡ cuts_at 6 (items_at a) (map node_leaf_text a.nodes) → Shown octets cuts (map node_leaf_text a.nodes)
reply_shown a octets cuts good spelled is =
    shown octets 6 (items_at a) (map node_leaf_text a.nodes) (digests.spell a.cover) cuts (omega (arith, length-map a.nodes node_leaf_text, good.nodes.one_each, good.nodes.few)) (reply_cut a octets good spelled) is
