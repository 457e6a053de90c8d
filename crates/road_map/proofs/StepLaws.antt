-- The arcs that roads make between positions are those of the map, with positions in place of ids.
use Rattle.std.proofs.Common.{◌≡◌, ℕ, ◌≤◌, ◌<◌, ◌==◌, nat_lt, min, Bool, true, false, cond, Some, List, [], ◌∷◌, inl, inr, refl, arith, ap, sym, ◌∙◌, subst, map, length, slice_get, Result, Ok, Err, IfOk, OnOk}
use Rattle.std.specs.List.{fold}
use Rattle.std.specs.List.Sorted.{IsPermutation}
use Rattle.std.specs.Option.{option_map, unwrap_or}
use Rattle.std.proofs.lemmas.Option.{slice_get_within}
use Rattle.std.proofs.lemmas.List.{length-map}
use Rattle.std.proofs.lemmas.List.Sorted.{length_permutation}
use Rattle.road_map.specs.declared.parts.Node.{Node}
use Rattle.road_map.specs.declared.parts.Road.{Road}
use Rattle.road_map.specs.declared.parts.Parts.{Parts}
use Rattle.road_map.specs.declared.arc.Arc.{Arc}
use Rattle.road_map.specs.declared.error.MapError.{MapError}
use Rattle.road_map.specs.ArcsOut.{put_arc, arcs_out}
use Rattle.road_map.specs.Maps.{StandsTwice, IsSized, IsDistinct, IsById, IsCrowded, JoinTwoBelow, Fault}
use Rattle.road_map.specs.Nets.{IsPlace, Placed}
use Rattle.road_map.specs.Places.{RiseBy}
use Rattle.road_map.specs.Rows.{capped_put, capped_road, row_at, IsPlaced, ArePlaced, JoinIdsBelow, ThinBelow, FirstCrowded, IsBuilt, id_at, named_arc}
use Rattle.road_map.specs.Steps.{AreSteps, StepFault}
use Rattle.road_map.specs.Walks.{ids}
use Rattle.road_map.proofs.Among.{map_place}
use Rattle.road_map.proofs.Capping.{IsCapped, capped_arcs}
use Rattle.road_map.proofs.ChartLaws.{crowded_known}
use Rattle.road_map.proofs.IdLaws.{known_at, node_id}
use Rattle.road_map.proofs.NetLaws.{Placed-length, one_item}
use Rattle.road_map.proofs.OrderLaws.{by_id_rises}
use Rattle.road_map.proofs.PlaceLaws.{order as compared, one_place}
use Rattle.road_map.proofs.Putting.{put_past, put_at, put_before}
use Rattle.road_map.proofs.RowLaws.{node_placed, joined_parts, road_fault}

abbrev id_of : Node → ℕ
id_of n = n.id

-- two tests agree if each implies the other
same_test : (a b u v : ℕ) → (a ≡ b → u ≡ v) → (u ≡ v → a ≡ b) → (a == b) ≡ (u == v)
same_test a b u v to back = by_tests (a == b) (u == v) refl refl
  where
    by_tests : (s t : Bool) → (a == b) ≡ s → (u == v) ≡ t → s ≡ t
    by_tests true true e f = refl
    by_tests false false e f = refl
    by_tests true false e f = absurd (let same : u ≡ v = to (grind (arith, e)) in grind (arith, f, same))
    by_tests false true e f = absurd (let same : a ≡ b = back (grind (arith, f)) in grind (arith, e, same))

module _ (order : List Node) (rise : RiseBy id_of order) where
  -- positions are in the order of their ids
  place_below : (x y i j : ℕ) → IsPlace order x i → IsPlace order y j → x < y → i < j
  place_below x y i j a b lt = elim (compared i j) [
    | inl less ↦ less
    | inr (inl e) ↦ absurd (let same : a.0.id ≡ y = node_id order y j a.0 b (subst (λ k. slice_get order k ≡ Some a.0) (sym e) a.1) in let x_is : a.0.id ≡ x = a.2 in omega arith)
    | inr (inr more) ↦ absurd (let back : b.0.id < a.0.id = rise j i b.0 a.0 more b.1 a.1 in let x_is : a.0.id ≡ x = a.2 in let y_is : b.0.id ≡ y = b.2 in omega arith)
  ]

  place_same : (x y i j : ℕ) → IsPlace order x i → IsPlace order y j → x ≡ y → i ≡ j
  place_same x y i j a b e = one_place id_of order rise y i j (subst (λ k. IsPlace order k i) e a) b

  -- an arc is put among arcs by id, and among the same arcs by position
  put_placed : (to l p : ℕ) (xs ys : List Arc) → IsPlace order to p → Placed order xs ys → Placed order (put_arc to l xs) (put_arc p l ys)
  put_placed to l p [] [] at h = (refl, at, tt)
  put_placed to l p [] (y ∷ ys) at h = absurd h
  put_placed to l p (x ∷ xs) [] at h = absurd h
  put_placed to l p (x ∷ xs) (y ∷ ys) at h = elim (compared to x.to) [
    | inl lt ↦ rw (put_before to l x xs lt, put_before p l y ys (place_below to x.to p y.to at h.1 lt)) (refl, at, h)
    | inr (inl e) ↦ rw (put_at to l x xs e, put_at p l y ys (place_same x.to to y.to p h.1 at e)) (ap (λ n. min n l) h.0, at, h.2)
    | inr (inr gt) ↦ rw (put_past to l x xs gt, put_past p l y ys (place_below x.to to y.to p h.1 at gt)) (h.0, h.1, put_placed to l p xs ys at h.2)
  ]

  capped_placed : (to l p : ℕ) (xs ys : List Arc) → IsPlace order to p → Placed order xs ys → Placed order (capped_put to l xs) (capped_put p l ys)
  capped_placed to l p xs ys at h = subst (λ n. Placed order (capped_put to l xs) (cond (nat_lt 255 n) ys (put_arc p l ys))) (sym (Placed-length order xs ys h)) (by_size (nat_lt 255 (length xs)))
    where
      by_size : (b : Bool) → Placed order (cond b xs (put_arc to l xs)) (cond b ys (put_arc p l ys))
      by_size true = h
      by_size false = put_placed to l p xs ys at h

  -- a road is added by id and by position
  module _ (p : ℕ) (n : Node) (here : slice_get order p ≡ Some n) where
    same_end : (id q : ℕ) → IsPlace order id q → (id == n.id) ≡ (q == p)
    same_end id q at = same_test id n.id q p (λ e. place_same id n.id q p at (n, here, refl) e) (λ e. sym (node_id order id q n at (subst (λ k. slice_get order k ≡ Some n) (sym e) here)))

    road_placed : (r q : Road) (xs ys : List Arc) → IsPlaced (ids order) r q → Placed order xs ys → Placed order (capped_road n.id xs r) (capped_road p ys q)
    road_placed r q xs ys is h =
        subst (λ s. Placed order (capped_road n.id xs r) (cond s (capped_put q.b q.length ys) (cond (q.b == p) (capped_put q.a q.length ys) ys))) (same_end r.a q.a a)
        (subst (λ t. Placed order (capped_road n.id xs r) (cond (r.a == n.id) (capped_put q.b q.length ys) (cond t (capped_put q.a q.length ys) ys))) (same_end r.b q.b b)
        (subst (λ l. Placed order (capped_road n.id xs r) (cond (r.a == n.id) (capped_put q.b l ys) (cond (r.b == n.id) (capped_put q.a l ys) ys))) (sym is.long)
        (by_tests (r.a == n.id) (r.b == n.id))))
      where
        a : IsPlace order r.a q.a
        a = node_placed order r.a q.a is.a

        b : IsPlace order r.b q.b
        b = node_placed order r.b q.b is.b

        by_tests : (s t : Bool) → Placed order (cond s (capped_put r.b r.length xs) (cond t (capped_put r.a r.length xs) xs)) (cond s (capped_put q.b r.length ys) (cond t (capped_put q.a r.length ys) ys))
        by_tests true t = capped_placed r.b r.length q.b xs ys b h
        by_tests false true = capped_placed r.a r.length q.a xs ys a h
        by_tests false false = h

    roads_placed : (rs qs : List Road) (xs ys : List Arc) → ArePlaced (ids order) rs qs → Placed order xs ys → Placed order (fold (capped_road n.id) xs rs) (fold (capped_road p) ys qs)
    roads_placed [] [] xs ys is h = h
    roads_placed [] (q ∷ qs) xs ys is h = absurd is
    roads_placed (r ∷ rs) [] xs ys is h = absurd is
    roads_placed (r ∷ rs) (q ∷ qs) xs ys is h = roads_placed rs qs (capped_road n.id xs r) (capped_road p ys q) is.1 (road_placed r q xs ys is.0 h)

  -- the arcs out of a node, by id and by position
  pub row_placed : (rs qs : List Road) → ArePlaced (ids order) rs qs → (p : ℕ) (n : Node) → slice_get order p ≡ Some n → Placed order (row_at rs n.id) (row_at qs p)
  row_placed rs qs is p n here = roads_placed p n here rs qs [] [] is tt

-- arcs by position, with the ids of their nodes put in
pub placed_named : (order : List Node) (xs ys : List Arc) → Placed order xs ys → map (named_arc order) ys ≡ xs
placed_named order [] [] h = refl
placed_named order [] (y ∷ ys) h = absurd h
placed_named order (x ∷ xs) [] h = absurd h
placed_named order (x ∷ xs) (y ∷ ys) h = rw (same, placed_named order xs ys h.2) refl
  where
    to : id_at order y.to ≡ x.to
    to = ap (λ o. unwrap_or (option_map (λ (n : Node). n.id) o) y.to) h.1.1 ∙ h.1.2

    same : named_arc order y ≡ x
    same = rw (to, h.0) refl

-- the nodes by id of the parts
pub record Ordered (parts : Parts) (order : List Node) : Type 0 where
  pub sized : IsSized parts
  pub distinct : IsDistinct parts
  pub same : IsPermutation parts.nodes order
  pub by_id : IsById parts.nodes order

module _ (parts : Parts) (order : List Node) (o : Ordered parts order) where
  rise : RiseBy id_of order
  rise = by_id_rises parts.nodes order o.by_id

  pub every : length order ≡ length parts.nodes
  every = length_permutation parts.nodes order o.same

  module _ (between : List Road) (is : ArePlaced (ids order) parts.roads between) (joins : JoinIdsBelow (ids order) parts.roads (length parts.roads)) where
    joined : JoinTwoBelow parts (length parts.roads)
    joined = joined_parts parts order o.by_id (length parts.roads) joins

    -- a row has as many arcs as the node, or both exceed the limit
    as_many : (p : ℕ) (n : Node) → slice_get order p ≡ Some n → length (row_at between p) ≡ length (row_at parts.roads n.id)
    as_many p n at = Placed-length order (row_at parts.roads n.id) (row_at between p) (row_placed order rise parts.roads between is p n at)

    crowded_row : (p : ℕ) (n : Node) → slice_get order p ≡ Some n → 255 < length (row_at between p) → IsCrowded parts n.id
    crowded_row p n at many = by_cap (capped_arcs parts.roads n.id)
      where
        by_cap : IsCapped (row_at parts.roads n.id) (arcs_out parts.roads n.id) → IsCrowded parts n.id
        by_cap (inl e) = let long : length (row_at parts.roads n.id) ≡ length (arcs_out parts.roads n.id) = ap length e in omega (arith, many, as_many p n at)
        by_cap (inr both) = both.1

    row_crowded : (p : ℕ) (n : Node) → slice_get order p ≡ Some n → IsCrowded parts n.id → 255 < length (row_at between p)
    row_crowded p n at many = by_cap (capped_arcs parts.roads n.id)
      where
        by_cap : IsCapped (row_at parts.roads n.id) (arcs_out parts.roads n.id) → 255 < length (row_at between p)
        by_cap (inl e) = let long : length (row_at parts.roads n.id) ≡ length (arcs_out parts.roads n.id) = ap length e in omega (arith, many, as_many p n at)
        by_cap (inr both) = omega (arith, both.0, as_many p n at)

    -- the id of a crowded node is the id at a crowded position
    crowded_place : (id : ℕ) → IsCrowded parts id → (p : ℕ) × IsPlace order id p × (255 < length (row_at between p))
    crowded_place id crowd =
        let p : (p : ℕ) × IsPlace order id p = known_at parts.nodes order id o.by_id (crowded_known parts joined id crowd) in
        (p.0, p.1, row_crowded p.0 p.1.0 p.1.1 (subst (IsCrowded parts) (sym p.1.2) crowd))

    crowded_fault : (e : MapError) → FirstCrowded between order e → Fault parts e
    crowded_fault e (inl m) = subst (Fault parts) (sym m) tt
    crowded_fault e (inr h) = subst (Fault parts) (sym h.3) (o.sized, o.distinct, joined, (crowded_row h.0 h.1 h.2 h.4, least))
      where
        least : (id : ℕ) → IsCrowded parts id → h.1.id ≤ id
        least id crowd =
            let q = crowded_place id crowd in
            let id_is : q.1.0.id ≡ id = q.1.2 in
            elim (compared h.0 q.0) [
              | inl lt ↦ let up : h.1.id < q.1.0.id = rise h.0 q.0 h.1 q.1.0 lt h.2 q.1.1 in omega arith
              | inr (inl same) ↦ let node : h.1 ≡ q.1.0 = one_item order h.0 h.1 q.1.0 h.2 (subst (λ k. slice_get order k ≡ Some q.1.0) same q.1.1) in let e : h.1.id ≡ q.1.0.id = ap id_of node in omega arith
              | inr (inr before) ↦ absurd (let few : length (row_at between q.0) ≤ 255 = h.5 q.0 before in omega (arith, q.2))
            ]

    exact : ThinBelow between (length order) → (p : ℕ) (n : Node) → slice_get order p ≡ Some n → row_at parts.roads n.id ≡ arcs_out parts.roads n.id
    exact thin p n at = by_cap (capped_arcs parts.roads n.id)
      where
        by_cap : IsCapped (row_at parts.roads n.id) (arcs_out parts.roads n.id) → row_at parts.roads n.id ≡ arcs_out parts.roads n.id
        by_cap (inl e) = e
        by_cap (inr both) = absurd (let few : length (row_at between p) ≤ 255 = thin p (slice_get_within order p n at) in omega (arith, both.0, as_many p n at))

  pub step_fault : (e : MapError) → StepFault order parts.roads e → Fault parts e
  step_fault e (inl first) = road_fault parts order o.by_id e o.sized o.distinct first
  step_fault e (inr h) = crowded_fault h.0 h.1 h.2 e h.3

  -- the constructed contents are those of a map
  pub built : (found : List ℕ) (arcs net : List (List Arc)) → found ≡ ids order → arcs ≡ map (map (named_arc order)) net → AreSteps order parts.roads net → IsBuilt parts order found arcs net
  built found arcs net named arcs_are s = record {
    is_map = record {
      sized = o.sized;
      distinct = o.distinct;
      joined = joined s.between s.placed s.joined;
      uncrowded = λ id crowd.
          let q = crowded_place s.between s.placed s.joined id crowd in
          let few : length (row_at s.between q.0) ≤ 255 = s.thin q.0 (slice_get_within order q.0 q.1.0 q.1.1) in
          omega (arith, q.2);
    };
    few = (let most : length parts.nodes ≤ 65536 = o.sized.1 in omega (arith, every));
    all = every;
    by_id = o.by_id;
    named = named;
    arcs = record {
      long = ap length arcs_are ∙ (length-map net (map (named_arc order)) ∙ s.rows.long);
      each = λ p n row at stands.
          let made : (out : List Arc) × (slice_get net p ≡ Some out) × (map (named_arc order) out ≡ row) = map_place (map (named_arc order)) net p row (subst (λ xs. slice_get xs p ≡ Some row) arcs_are stands) in
          sym made.2 ∙ (placed_named order (row_at parts.roads n.id) made.0 (subst (Placed order (row_at parts.roads n.id)) (sym (s.rows.each p made.0 made.1)) (row_placed order rise parts.roads s.between s.placed p n at))
          ∙ exact s.between s.placed s.joined s.thin p n at);
    };
    steps = record {
      long = s.rows.long;
      each = λ p n row at stands.
          subst (λ xs. Placed order xs row) (exact s.between s.placed s.joined s.thin p n at)
          (subst (Placed order (row_at parts.roads n.id)) (sym (s.rows.each p row stands)) (row_placed order rise parts.roads s.between s.placed p n at));
    };
  }

pub ordered : (parts : Parts) (lent order : List Node) → lent ≡ parts.nodes → IsSized parts → ((id : ℕ) → StandsTwice lent id → ⊥) → IsPermutation lent order → IsById lent order → Ordered parts order
ordered parts lent order is sized distinct same by_id = record {
  sized = sized;
  distinct = subst (λ (xs : List Node). (id : ℕ) → StandsTwice xs id → ⊥) is distinct;
  same = subst (λ (xs : List Node). IsPermutation xs order) is same;
  by_id = subst (λ (xs : List Node). IsById xs order) is by_id;
}

-- the result, if two facts about it determine it
pub both_ok : {T E : Type 0} (r : Result T E) (P Q : T → Type 0) (Thin : Type 0) → ((x : T) → P x → Thin → Q x) → IfOk r P → OnOk r Thin → IfOk r Q
both_ok (Ok x) P Q Thin f p t = f x p t
both_ok (Err e) P Q Thin f p t = tt
