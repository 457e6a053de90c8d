-- Arcs by position.
use Rattle.std.proofs.Common.{◌≡◌, ℕ, zero, suc, ◌+◌, ◌<◌, ◌≤◌, Some, List, [], ◌∷◌, ◌++◌, ◌⊎◌, inl, inr, length, slice_get, get_or, refl, arith, ap, sym, ◌∙◌, subst}
use Rattle.std.specs.List.{Contains}
use Rattle.std.proofs.lemmas.List.{length-append}
use Rattle.road_map.specs.declared.arc.Arc.{Arc}
use Rattle.road_map.specs.declared.parts.Node.{Node}
use Rattle.road_map.specs.declared.parts.Road.{Road}
use Rattle.road_map.specs.declared.parts.Parts.{Parts}
use Rattle.road_map.specs.ArcsOut.{arcs_out}
use Rattle.road_map.specs.Maps.{IsMap}
use Rattle.road_map.specs.Nets.{IsPlace, Placed}
use Rattle.road_map.specs.Rows.{row_at, ThinBelow, AreRows}
use Rattle.road_map.specs.Walks.{Knows}
use Rattle.road_map.proofs.ArcLaws.{arcs_out-sound, HopOf}
use Rattle.road_map.proofs.ChartLaws.{roads_known}
use Rattle.road_map.proofs.WalkLaws.{hop_end-known}

-- a list has one item at an index
pub one_item : {X : Type 0} (xs : List X) (p : ℕ) (x y : X) → slice_get xs p ≡ Some x → slice_get xs p ≡ Some y → x ≡ y
one_item xs p x y a b = let same : Some x ≡ Some y = sym a ∙ b in cc

-- arcs of a map lead to known nodes
pub arc_known : (parts : Parts) → IsMap parts → (u : ℕ) (a : Arc) → Contains (arcs_out parts.roads u) a → Knows parts a.to
arc_known parts m u a c =
    let o : HopOf parts.roads u a = arcs_out-sound parts.roads u a c in
    subst (Knows parts) o.leads (hop_end-known parts (roads_known parts m.joined) o.hop.road o.hop.back o.among)

-- both lists of arcs have the same length, and the arcs at an index lead to the same node
pub Placed-length : (order : List Node) (arcs bs : List Arc) → Placed order arcs bs → length bs ≡ length arcs
Placed-length order [] [] h = refl
Placed-length order [] (y ∷ ys) h = absurd h
Placed-length order (x ∷ xs) [] h = absurd h
Placed-length order (x ∷ xs) (y ∷ ys) h = ap suc (Placed-length order xs ys h.2)

pub Placed-at : (order : List Node) (arcs bs : List Arc) (i : ℕ) (c d : Arc) → Placed order arcs bs → i < length arcs → IsPlace order (get_or arcs i c).to (get_or bs i d).to
Placed-at order [] bs i c d h lt = absurd (omega (arith, lt))
Placed-at order (x ∷ xs) [] i c d h lt = absurd h
Placed-at order (x ∷ xs) (y ∷ ys) zero c d h lt = h.1
Placed-at order (x ∷ xs) (y ∷ ys) (suc i) c d h lt = Placed-at order xs ys i c d h.2 (omega (arith, lt))

-- an element of a list that has one more item at its end
pub last_or_before : {X : Type 0} (xs : List X) (x : X) (p : ℕ) (r : X) → slice_get (xs ++ x ∷ []) p ≡ Some r → (slice_get xs p ≡ Some r) ⊎ ((p ≡ length xs) × (x ≡ r))
last_or_before [] x zero r h = inr (refl, (let same : Some x ≡ Some r = h in cc))
last_or_before [] x (suc p) r h = cc
last_or_before (y ∷ xs) x zero r h = inl h
last_or_before (y ∷ xs) x (suc p) r h = elim (last_or_before xs x p r h) [ inl e ↦ inl e | inr e ↦ inr (ap suc e.0, e.1) ]

-- the arcs with one more row
pub long_more : (net new : List (List Arc)) (i : ℕ) (out : List Arc) → new ≡ net ++ out ∷ [] → length net ≡ i → length new ≡ i + 1
long_more net new i out is long = let l : length new ≡ length net + 1 = ap length is ∙ length-append net (out ∷ []) in omega (arith, l, long)

-- the rows with one more position
pub rows_more : (roads : List Road) (p : ℕ) (rows new : List (List Arc)) (row : List Arc) → new ≡ rows ++ row ∷ [] → row ≡ row_at roads p → AreRows roads p rows → AreRows roads (p + 1) new
rows_more roads p rows new row is at before = record {
  long = long_more rows new p row is before.long;
  each = λ k r stands. elim (last_or_before rows row k r (subst (λ xs. slice_get xs k ≡ Some r) is stands)) [
    | inl old ↦ before.each k r old
    | inr last ↦ sym last.1 ∙ (at ∙ ap (row_at roads) (sym (last.0 ∙ before.long)))
  ];
}

pub thin_more : (roads : List Road) (p : ℕ) (row : List Arc) → row ≡ row_at roads p → length row ≤ 255 → ThinBelow roads p → ThinBelow roads (p + 1)
thin_more roads p row at few before k lt = elim (earlier k lt) [
  | inl less ↦ before k less
  | inr same ↦ let long : length row ≡ length (row_at roads k) = ap length at ∙ ap (λ i. length (row_at roads i)) (sym same) in omega (arith, long, few)
]
  where
    earlier : (k : ℕ) → k < p + 1 → (k < p) ⊎ (k ≡ p)
    earlier k lt = grind (arith, lt)
