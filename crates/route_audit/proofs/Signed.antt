-- A part that recomputes a signed root also recomputes the root of the held book with the signed header.
use Rattle.std.proofs.Common.{◌≡◌, ℕ, List, length, Ok, sym, ap, ◌∙◌}
use Rattle.std.proofs.lemmas.List.{length-map}
use Rattle.road_leaf.specs.Leaves.{node_leaf_text, pair_leaf}
use Rattle.proof_octets.specs.declared.header.Header.{Header}
use Rattle.proof_octets.specs.declared.reply.Answer as answers
use Rattle.route_client.specs.Verdicts.{covered, nodes_covered, pairs_covered}
use Rattle.route_server.specs.Headers.{node_texts, pair_texts, root_or_zeros, header_of}
use Rattle.route_server.specs.Keeping.{Kept, header_in, texts_in}
use Rattle.route_audit.specs.Comparing.{FoldsUnder, leaves_or_none, node_part_of, pair_part_of}
use Rattle.route_audit.specs.Evidence.{Part}
use Rattle.route_audit.proofs.Folded.{leaves_are}

-- a part covered under these numbers is covered under equal numbers
pub covered_same : (hash : List ℕ → List ℕ) (which : ℕ) (part : Part) (count fan : ℕ) (top : List ℕ) → count ≡ length part.leaves → fan ≡ part.fan → top ≡ root_or_zeros hash part.fan part.leaves
    → covered hash which count fan part.places part.texts part.cover top ≡ Ok tt → FoldsUnder hash which part
covered_same hash which part count fan top counts fans tops is =
    ap (λ (n : ℕ). covered hash which n part.fan part.places part.texts part.cover (root_or_zeros hash part.fan part.leaves)) (sym counts)
    ∙ ap (λ (f : ℕ). covered hash which count f part.places part.texts part.cover (root_or_zeros hash part.fan part.leaves)) (sym fans)
    ∙ ap (λ (r : List ℕ). covered hash which count fan part.places part.texts part.cover r) (sym tops)
    ∙ is

pub folds_nodes : (hash : List ℕ → List ℕ) (k : Kept) (a : answers.Answer) → a.header ≡ header_in hash k → nodes_covered hash a ≡ Ok tt → FoldsUnder hash 1 (node_part_of k a)
unfolding nodes_covered header_of
folds_nodes hash k a same is =
    let leaves : leaves_or_none (texts_in k 1) ≡ node_texts k.nodes = leaves_are (node_texts k.nodes) in
    let fans : a.header.fan ≡ k.settings.fan = ap (λ (h : Header). h.fan) same in
    covered_same hash 1 (node_part_of k a) a.header.nodes a.header.fan a.header.node_root
    (ap (λ (h : Header). h.nodes) same ∙ sym (length-map k.nodes node_leaf_text) ∙ ap (λ (ls : List (List ℕ)). length ls) (sym leaves))
    fans
    (ap (λ (h : Header). h.node_root) same ∙ ap (root_or_zeros hash k.settings.fan) (sym leaves))
    is

pub folds_pairs : (hash : List ℕ → List ℕ) (k : Kept) (a : answers.Answer) → a.header ≡ header_in hash k → pairs_covered hash a ≡ Ok tt → FoldsUnder hash 2 (pair_part_of k a)
unfolding pairs_covered header_of
folds_pairs hash k a same is =
    let leaves : leaves_or_none (texts_in k 2) ≡ pair_texts k.pairs = leaves_are (pair_texts k.pairs) in
    let fans : a.header.fan ≡ k.settings.fan = ap (λ (h : Header). h.fan) same in
    covered_same hash 2 (pair_part_of k a) a.header.pairs a.header.fan a.header.pair_root
    (ap (λ (h : Header). h.pairs) same ∙ sym (length-map k.pairs pair_leaf.spell) ∙ ap (λ (ls : List (List ℕ)). length ls) (sym leaves))
    fans
    (ap (λ (h : Header). h.pair_root) same ∙ ap (root_or_zeros hash k.settings.fan) (sym leaves))
    is
