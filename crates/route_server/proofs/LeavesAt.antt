-- The leaves of the ids at indices of an order are the leaves whose texts are at these indices.
use Rattle.std.proofs.Common.{◌≡◌, ℕ, zero, suc, ◌<◌, Some, List, [], ◌∷◌, length, map, get_or, refl, arith, ap, sym, subst, ◌∙◌}
use Rattle.std.specs.Prelude.{All}
use Rattle.std.specs.List.{Contains, AllByRecursion}
use Rattle.std.proofs.lemmas.List.{get_or_default}
use Rattle.std.proofs.lemmas.List.Elements.{All-from_recursion, recursion_from_All}
use Rattle.road_map.specs.Walks.{Knows}
use Rattle.road_map.proofs.Among.{Contains-here, Contains-there}
use Rattle.road_leaf.specs.declared.leaf.NodeLeaf.{NodeLeaf}
use Rattle.road_leaf.specs.Leaves.{node_leaf_text}
use Rattle.book_model.specs.Books.{Book, leaf, leaves_of}
use Rattle.merkle_cover.specs.Covers.{IsRising}
use Rattle.proof_method.specs.Gathering.{IsOrderOf}
use Rattle.proof_octets.specs.declared.placed.PlacedAnswer.{PlacedAnswer}
use Rattle.proof_octets.specs.declared.placed_near.PlacedNear.{PlacedNear}
use Rattle.proof_octets.specs.NearReplies.{near_reply}
use Rattle.proof_octets.specs.PlacedNear.{near_with, HasNearLeaves}
use Rattle.proof_octets.specs.Placed as placed
use Rattle.proof_octets.specs.Placed.{with_leaves, HasLeaves}
use Rattle.proof_octets.specs.Replies.{reply, reply_of}
use Rattle.route_server.specs.Headers.{node_texts}
use Rattle.route_server.specs.Honesty.{ids_at}
use Rattle.route_server.proofs.Known.{known_leaf}
use Rattle.route_server.proofs.Places.{contains_item}
use Rattle.route_server.proofs.RisenLemmas.{text_at, length-node_texts}

below_all : (n : ℕ) (places : List ℕ) → IsRising n places → All (λ p. p < n) places
below_all n places rising = λ k d within. subst (λ p. p < n) (get_or_default places k 0 d within) (rising.below k within)

by_each : (b : Book) (order places : List ℕ) → ((id : ℕ) → Contains order id → Knows b.parts id) → AllByRecursion (λ p. p < length order) places → map (placed.text_at (node_texts (leaves_of b order))) places ≡ node_texts (leaves_of b (ids_at order places))
by_each b order [] known below = refl
by_each b order (p ∷ ps) known below =
    let l = known_leaf b (get_or order p 0) (known (get_or order p 0) (contains_item order p below.0)) in
    let rest = by_each b order ps known below.1 in
    rw l.1
    (ap (λ (t : List ℕ). t ∷ map (placed.text_at (node_texts (leaves_of b order))) ps) (text_at b order known p l.0 below.0 l.1) ∙ ap (λ (ts : List (List ℕ)). node_leaf_text l.0 ∷ ts) rest)

texts_at : (b : Book) (order places : List ℕ) → IsOrderOf b.parts order → IsRising (length order) places → map (placed.text_at (node_texts (leaves_of b order))) places ≡ node_texts (leaves_of b (ids_at order places))
texts_at b order places lists rising = by_each b order places (λ id h. (lists.same id).0 h) (recursion_from_All (λ p. p < length order) places (below_all (length order) places rising))

-- a fact about each leaf holds for the leaf at an index
one_at : (P : NodeLeaf → Type 0) (b : Book) (order : List ℕ) (i : ℕ) (l : NodeLeaf) → ((id : ℕ) → Contains order id → Knows b.parts id) → i < length order → leaf b (get_or order i 0) ≡ Some l → AllByRecursion P (leaves_of b order) → P l
one_at P b [] i l known within e each = absurd (omega (arith, within))
one_at P b (id ∷ order) zero l known within e each = (rw e at each).0
one_at P b (id ∷ order) (suc i) l known within e each =
    let first = known_leaf b id (known id (Contains-here id order)) in
    one_at P b order i l (λ x h. known x (Contains-there id x order h)) (omega (arith, within)) e (rw first.1 at each).1

each_at : (P : NodeLeaf → Type 0) (b : Book) (order places : List ℕ) → ((id : ℕ) → Contains order id → Knows b.parts id) → AllByRecursion (λ p. p < length order) places → AllByRecursion P (leaves_of b order) → AllByRecursion P (leaves_of b (ids_at order places))
each_at P b order [] known below each = tt
each_at P b order (p ∷ ps) known below each =
    let l = known_leaf b (get_or order p 0) (known (get_or order p 0) (contains_item order p below.0)) in
    rw l.1 (one_at P b order p l.0 known below.0 l.1 each, each_at P b order ps known below.1 each)

pub all_at : (P : NodeLeaf → Type 0) (b : Book) (order places : List ℕ) → IsOrderOf b.parts order → IsRising (length order) places → All P (leaves_of b order) → All P (leaves_of b (ids_at order places))
all_at P b order places lists rising each =
    All-from_recursion P (leaves_of b (ids_at order places))
    (each_at P b order places (λ id h. (lists.same id).0 h) (recursion_from_All (λ p. p < length order) places (below_all (length order) places rising)) (recursion_from_All P (leaves_of b order) each))

-- ---- they are the leaves at these indices of a list of these texts

within_at : (texts : List (List ℕ)) (b : Book) (order places : List ℕ) → IsOrderOf b.parts order → texts ≡ node_texts (leaves_of b order) → IsRising (length order) places → All (λ p. p < length texts) places
within_at texts b order places lists are rising =
    let count : length texts ≡ length order = ap (λ (ts : List (List ℕ)). length ts) are ∙ length-node_texts b order lists in
    below_all (length texts) places (subst (λ n. IsRising n places) (sym count) rising)

spelled_at : (texts : List (List ℕ)) (b : Book) (order places : List ℕ) → IsOrderOf b.parts order → texts ≡ node_texts (leaves_of b order) → IsRising (length order) places → map (placed.text_at texts) places ≡ node_texts (leaves_of b (ids_at order places))
spelled_at texts b order places lists are rising = subst (λ (ts : List (List ℕ)). map (placed.text_at ts) places ≡ node_texts (leaves_of b (ids_at order places))) (sym are) (texts_at b order places lists rising)

pub has_leaves : (a : PlacedAnswer) (texts : List (List ℕ)) (b : Book) (order : List ℕ) → IsOrderOf b.parts order → texts ≡ node_texts (leaves_of b order) → IsRising (length order) a.node_places
    → reply.Fits (reply_of (with_leaves a (leaves_of b (ids_at order a.node_places)))) → HasLeaves a texts (leaves_of b (ids_at order a.node_places))
has_leaves a texts b order lists are rising fits = record {
  within = within_at texts b order a.node_places lists are rising;
  spelled = spelled_at texts b order a.node_places lists are rising;
  fits = fits;
}

pub has_near_leaves : (a : PlacedNear) (texts : List (List ℕ)) (b : Book) (order : List ℕ) → IsOrderOf b.parts order → texts ≡ node_texts (leaves_of b order) → IsRising (length order) a.places
    → near_reply.Fits (near_with a (leaves_of b (ids_at order a.places))) → HasNearLeaves a texts (leaves_of b (ids_at order a.places))
has_near_leaves a texts b order lists are rising fits = record {
  within = within_at texts b order a.places lists are rising;
  spelled = spelled_at texts b order a.places lists are rising;
  fits = fits;
}
