-- Marks by position and marks by id.
use Rattle.std.proofs.Common.{◌≡◌, ℕ, zero, suc, ◌<◌, Option, None, Some, List, [], ◌∷◌, ◌++◌, map, length, refl, ap, sym, ◌∙◌, subst}
use Rattle.std.specs.List.{Contains}
use Rattle.std.specs.Option.{option_map, unwrap_or}
use Rattle.std.proofs.lemmas.List.{map-append}
use Rattle.std.proofs.lemmas.List.Elements.{Contains-push, Contains-append_left}
use Rattle.road_map.specs.declared.parts.Node.{Node}
use Rattle.road_map.specs.Nets.{IsPlace}
use Rattle.road_search.specs.declared.marks.Mark.{Mark}
use Rattle.road_search.specs.declared.label.Label.{Label}
use Rattle.road_search.specs.Marking.{label_in}
use Rattle.road_search.specs.Labelling.{length_in, before_at, way_to, route_in}
use Rattle.road_search.specs.Nets.{id_at, named, AreNamed}
use Rattle.road_search.proofs.NetLaws.{id_there, placed_id}

module _ (order : List Node) (f g : ℕ → Option Mark) (h : AreNamed order f g) where
  fused : (o : Option Mark) → option_map (λ (l : Label). l.length) (option_map (λ (m : Mark). m.label) (option_map (named order) o)) ≡ option_map (λ (l : Label). l.length) (option_map (λ (m : Mark). m.label) o)
  fused None = refl
  fused (Some m) = refl

  pub length_named : (id p : ℕ) → IsPlace order id p → length_in g id ≡ length_in f p
  length_named id p at = ap (λ o. option_map (λ (l : Label). l.length) (option_map (λ (m : Mark). m.label) o)) (h.each id p at) ∙ fused (f p)

  pub length_other : (id : ℕ) → ((p : ℕ) → IsPlace order id p → ⊥) → length_in g id ≡ None
  length_other id none = ap (λ o. option_map (λ (l : Label). l.length) (option_map (λ (m : Mark). m.label) o)) (h.others id none)

  by_mark : (q : ℕ) (o : Option Mark) → unwrap_or (option_map (λ (l : Label). l.before) (option_map (λ (m : Mark). m.label) (option_map (named order) o))) (id_at order q) ≡ id_at order (unwrap_or (option_map (λ (l : Label). l.before) (option_map (λ (m : Mark). m.label) o)) q)
  by_mark q None = refl
  by_mark q (Some m) = refl

  before_named : (q : ℕ) → IsPlace order (id_at order q) q → before_at (label_in g) (id_at order q) ≡ id_at order (before_at (label_in f) q)
  before_named q at = ap (λ o. unwrap_or (option_map (λ (l : Label). l.before) (option_map (λ (m : Mark). m.label) o)) (id_at order q)) (h.each (id_at order q) q at) ∙ by_mark q (f q)

  way_named : (hops q : ℕ) → ((x : ℕ) → Contains (way_to (label_in f) hops q) x → x < length order) → way_to (label_in g) hops (id_at order q) ≡ map (id_at order) (way_to (label_in f) hops q)
  way_named zero q all = refl
  way_named (suc hops) q all =
      let b : ℕ = before_at (label_in f) q in
      let start : List ℕ = way_to (label_in f) hops b in
      let lt : q < length order = all q (Contains-push start q) in
      let step : before_at (label_in g) (id_at order q) ≡ id_at order b = before_named q (placed_id order q lt) in
      let rest : way_to (label_in g) hops (id_at order b) ≡ map (id_at order) start = way_named hops b (λ x c. all x (Contains-append_left start (q ∷ []) x c)) in
      ap (λ xs. xs ++ id_at order q ∷ []) (ap (way_to (label_in g) hops) step ∙ rest) ∙ sym (map-append (id_at order) start (q ∷ []))

  -- the route to an id is the route to its position, by ids
  pub route_named : (id p : ℕ) → IsPlace order id p → ((route : List ℕ) → route_in f p ≡ Some route → (x : ℕ) → Contains route x → x < length order) → route_in g id ≡ option_map (map (id_at order)) (route_in f p)
  route_named id p at all = by_mark_of (f p) refl
    where
      by_mark_of : (o : Option Mark) → f p ≡ o → route_in g id ≡ option_map (map (id_at order)) (route_in f p)
      by_mark_of None e =
          let mine : g id ≡ None = h.each id p at ∙ ap (option_map (named order)) e in
          ap (λ o. option_map (λ (l : Label). way_to (label_in g) l.hops id) (option_map (λ (m : Mark). m.label) o)) mine ∙ sym (ap (λ o. option_map (map (id_at order)) (option_map (λ (l : Label). way_to (label_in f) l.hops p) (option_map (λ (m : Mark). m.label) o))) e)
      by_mark_of (Some m) e =
          let mine : g id ≡ Some (named order m) = h.each id p at ∙ ap (option_map (named order)) e in
          let theirs : route_in f p ≡ Some (way_to (label_in f) m.label.hops p) = ap (λ o. option_map (λ (l : Label). way_to (label_in f) l.hops p) (option_map (λ (m : Mark). m.label) o)) e in
          let same : way_to (label_in g) m.label.hops id ≡ map (id_at order) (way_to (label_in f) m.label.hops p) = subst (λ i. way_to (label_in g) m.label.hops i ≡ map (id_at order) (way_to (label_in f) m.label.hops p)) (id_there order id p at) (way_named m.label.hops p (all (way_to (label_in f) m.label.hops p) theirs)) in
          ap (λ o. option_map (λ (l : Label). way_to (label_in g) l.hops id) (option_map (λ (m : Mark). m.label) o)) mine ∙ (ap Some same ∙ sym (ap (option_map (map (id_at order))) theirs))
