-- The two ends of a query: there is one first unknown end, and a shortest route between known ends is a walk.
use Rattle.std.proofs.Common.{◌≡◌, ◌≢◌, ℕ, ◌+◌, List, [], ◌∷◌, refl, sym, ap, subst, ◌∙◌, inl, inr}
use Rattle.std.proofs.lemmas.Bool.{cases_eq}
use Rattle.road_map.specs.Walks.{Hop, Follows, end_from, total, Knows, Joins}
use Rattle.road_map.specs.Routes.{IsShortest, AlongArcs, last_stop, walk_length}
use Rattle.road_map.specs.declared.arc.Arc.{Arc}
use Rattle.road_map.specs.declared.parts.Road.{Road as RoadOf}
use Rattle.road_map.specs.Laws.{ArcLaws, HasRoad}
use Rattle.road_map.specs.declared.parts.Parts.{Parts}
use Rattle.command_files.specs.TwoEnds.{IsFirstUnknown}

-- two known ends are not the first unknown end
pub both_known : (parts : Parts) (from to id : ℕ) → Knows parts from → Knows parts to → IsFirstUnknown parts from to id → ⊥
both_known parts from to id start end h =
    let other : id ≢ from = λ is. h.unknown (subst (Knows parts) (sym is) start) in
    h.unknown (subst (Knows parts) (sym (h.first other).0) end)

-- the first unknown end is unknown
pub one_unknown : (parts : Parts) (from to a b : ℕ) → IsFirstUnknown parts from to a → IsFirstUnknown parts from to b → a ≡ b
one_unknown parts from to a b h k =
    elim (cases_eq a from) [
      | inl e ↦ elim (cases_eq b from) [
        | inl f ↦ e ∙ sym f
        | inr nf ↦ absurd (h.unknown (subst (Knows parts) (sym e) (k.first nf).1))
      ]
      | inr ne ↦ elim (cases_eq b from) [
        | inl f ↦ absurd (k.unknown (subst (Knows parts) (sym f) (h.first ne).1))
        | inr nf ↦ (h.first ne).0 ∙ sym (k.first nf).0
      ]
    ]

-- hops over roads that are as long as these arcs
record HopsAlong (roads : List RoadOf) (u : ℕ) (arcs : List Arc) : Type 0 where
  hops : List Hop
  follows : Follows roads u hops
  ends : end_from u hops ≡ last_stop u arcs
  sums : total hops ≡ walk_length arcs

hops_along : (parts : Parts) → ((u : ℕ) → ArcLaws parts u) → (u : ℕ) (arcs : List Arc) → AlongArcs parts.roads u arcs → HopsAlong parts.roads u arcs
hops_along parts laws u [] h = record { hops = []; follows = tt; ends = refl; sums = refl }
hops_along parts laws u (a ∷ arcs) h =
    let o : HasRoad parts u a = (laws u).roads a h.0 in
    let rest : HopsAlong parts.roads a.to arcs = hops_along parts laws a.to arcs h.1 in
    record {
      hops = o.hop ∷ rest.hops;
      follows = (o.among, o.leaves, subst (λ t. Follows parts.roads t rest.hops) (sym o.leads) rest.follows);
      ends = ap (λ t. end_from t rest.hops) o.leads ∙ rest.ends;
      sums = ap (λ t. t + total rest.hops) o.long ∙ ap (λ t. a.length + t) rest.sums;
    }

-- a shortest route is a walk
pub shortest_joins : (parts : Parts) → ((u : ℕ) → ArcLaws parts u) → (from to d : ℕ) (route : List ℕ) → IsShortest parts from to route d → Joins parts from to d
shortest_joins parts laws from to d route h =
    let w : HopsAlong parts.roads from h.arcs = hops_along parts laws from h.arcs h.along in
    record { walk = record { start = from; hops = w.hops }; known = h.known.0; starts = refl; follows = w.follows; ends = w.ends ∙ h.ends; sums = w.sums ∙ h.sums }
