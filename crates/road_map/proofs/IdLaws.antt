-- The ids of a map's nodes in ascending order, and the indices of ids.
use Rattle.std.proofs.Common.{◌≡◌, ◌≢◌, ℕ, ◌+◌, ◌<◌, ◌≤◌, Option, None, Some, IfSome, IfNone, IsSome, List, [], ◌∷◌, ◌++◌, refl, arith, ap, sym, ◌∙◌, subst, length, take, take_all, slice_get, get_or}
use Rattle.std.specs.List.{Contains}
use Rattle.std.proofs.lemmas.List.{length-map}
use Rattle.std.proofs.lemmas.Grind.{take_at_read}
use Rattle.std.proofs.lemmas.Option.{slice_get_within, get_or_from_slice_get}
use Rattle.road_map.specs.declared.parts.Node.{Node}
use Rattle.road_map.specs.Walks.{ids}
use Rattle.road_map.specs.Maps.{IsById}
use Rattle.road_map.specs.Nets.{IsPlace}
use Rattle.road_map.proofs.Among.{place_at, place_map, Contains-from_map}

-- the ids with one more
pub one_more : (order : List Node) (i : ℕ) (n : Node) (before after : List ℕ) → slice_get order i ≡ Some n → before ≡ take i (ids order) → after ≡ before ++ n.id ∷ [] → after ≡ take (i + 1) (ids order)
one_more order i n before after is so_far pushed =
    let at : slice_get (ids order) i ≡ Some n.id = place_map (λ (m : Node). m.id) order i n is in
    let here : get_or (ids order) i 0 ≡ n.id = get_or_from_slice_get (ids order) i n.id 0 at in
    pushed ∙ (ap (λ xs. xs ++ n.id ∷ []) so_far ∙ (ap (λ id. take i (ids order) ++ id ∷ []) (sym here) ∙ sym (take_at_read (ids order) i 0 (slice_get_within (ids order) i n.id at)).1))

pub all_ids : (order : List Node) (i : ℕ) (found : List ℕ) → found ≡ take i (ids order) → length order ≤ i → found ≡ ids order
all_ids order i found is ends = is ∙ take_all i (ids order) (omega (arith, length-map order (λ (n : Node). n.id), ends))

-- a known id has an index
pub known_at : (nodes order : List Node) (id : ℕ) → IsById nodes order → Contains (ids nodes) id → (p : ℕ) × IsPlace order id p
known_at nodes order id by c =
    let n : (n : Node) × Contains nodes n × (n.id ≡ id) = Contains-from_map (λ (m : Node). m.id) nodes id c in
    let p : (p : ℕ) × (slice_get order p ≡ Some n.0) = place_at order n.0 ((by.same n.0).0 n.1) in
    (p.0, (n.0, p.1, n.2))

-- so a look-up of a known id finds an index
pub place_there : (nodes order : List Node) → IsById nodes order → (id : ℕ) → Contains (ids nodes) id → (o : Option ℕ) → IfNone o ((k : ℕ) (n : Node) → slice_get order k ≡ Some n → n.id ≢ id) → IsSome o
place_there nodes order by id known (Some p) none = refl
place_there nodes order by id known None none = absurd (let h : (p : ℕ) × IsPlace order id p = known_at nodes order id by known in none h.0 h.1.0 h.1.1 h.1.2)

-- a fact holds of the item that was found
pub at_some : {X : Type 0} (P : X → Type 0) (o : Option X) (x : X) → o ≡ Some x → IfSome o P → P x
at_some P None x e h = cc
at_some P (Some y) x e h = subst P (let same : y ≡ x = cc in same) h

-- an index of an id is an index of the order
pub place_within : (order : List Node) (id p : ℕ) → IsPlace order id p → p < length order
place_within order id p h = slice_get_within order p h.0 h.1

-- the node at the index of an id
pub node_id : (order : List Node) (id p : ℕ) (n : Node) → IsPlace order id p → slice_get order p ≡ Some n → n.id ≡ id
node_id order id p n h is = let same : Some h.0 ≡ Some n = sym h.1 ∙ is in let node : h.0 ≡ n = cc in sym (ap (λ (m : Node). m.id) node) ∙ h.2
