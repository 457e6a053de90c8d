-- A part that recomputes a signed root also recomputes the root of the held book with the signed header.
use Rattle.std.proofs.Common.{◌≡◌, ℕ, List, length, Ok, sym, ap, ◌∙◌}
use Rattle.std.proofs.lemmas.List.{length-map}
use Rattle.road_leaf.specs.Leaves.{node_leaf_text}
use Rattle.proof_octets.specs.declared.header.Header.{Header}
use Rattle.route_server.specs.Headers.{node_texts, root_or_zeros, header_of}
use Rattle.route_server.specs.Keeping.{Kept, header_in, texts_in}
use Rattle.route_audit.specs.Comparing.{FoldsUnder, leaves_or_none}
use Rattle.route_audit.proofs.Folded.{leaves_are}
use Rattle.route_audit.proofs.Signed.{covered_same}
use Rattle.proof_octets.specs.declared.near_reply.NearReply.{NearReply}
use Rattle.route_client.specs.NearVerdicts.{items_covered}
use Rattle.route_audit.specs.NearComparing.{part_of}

pub folds_items : (hash : List ℕ → List ℕ) (k : Kept) (a : NearReply) → a.header ≡ header_in hash k → items_covered hash a ≡ Ok tt → FoldsUnder hash 1 (part_of k a)
unfolding header_of
folds_items hash k a same is =
    let leaves : leaves_or_none (texts_in k 1) ≡ node_texts k.nodes = leaves_are (node_texts k.nodes) in
    covered_same hash 1 (part_of k a) a.header.nodes a.header.fan a.header.node_root
    (ap (λ (h : Header). h.nodes) same ∙ sym (length-map k.nodes node_leaf_text) ∙ ap (λ (ls : List (List ℕ)). length ls) (sym leaves))
    (ap (λ (h : Header). h.fan) same)
    (ap (λ (h : Header). h.node_root) same ∙ ap (root_or_zeros hash k.settings.fan) (sym leaves))
    is
