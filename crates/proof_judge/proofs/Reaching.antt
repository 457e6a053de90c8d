-- Passing walks with one more arc.
use Rattle.std.proofs.Common.{◌≡◌, ℕ, ◌+◌, ◌<◌, IsTrue, List, [], ◌∷◌, ◌++◌, refl, arith, ap, ◌∙◌, map, add_assoc, add-zero, zero-add}
use Rattle.road_map.specs.declared.arc.Arc.{Arc}
use Rattle.road_map.specs.Routes.{last_stop, walk_length}
use Rattle.road_search.specs.Passing.{Ways, Leaves, Passes, PassesBy, Reaches}

Passes-snoc : (w : Ways) (id p : ℕ) (walk : List Arc) (a : Arc) → Passes w id p walk → Leaves w (last_stop id walk) a → IsTrue (w.lets (last_stop id walk) (p + walk_length walk)) → Passes w id p (walk ++ a ∷ [])
Passes-snoc w id p [] a h leaves lets = (leaves, rw add-zero at lets, tt)
Passes-snoc w id p (b ∷ walk) a h leaves lets = (h.0, h.1, Passes-snoc w b.to (p + b.length) walk a h.2 leaves (rw add_assoc lets))

last_stop-snoc : (id : ℕ) (walk : List Arc) (a : Arc) → last_stop id (walk ++ a ∷ []) ≡ a.to
last_stop-snoc id [] a = refl
last_stop-snoc id (b ∷ walk) a = last_stop-snoc b.to walk a

sum-snoc : (walk : List Arc) (a : Arc) → walk_length (walk ++ a ∷ []) ≡ walk_length walk + a.length
sum-snoc [] a = omega arith
sum-snoc (b ∷ walk) a = omega (arith, sum-snoc walk a)

pub Reaches-start : (w : Ways) (from limit : ℕ) → 0 < limit → Reaches w from limit from 0
Reaches-start w from limit lt = (from ∷ [], record { walk = []; passes = tt; visits = refl; ends = refl; sums = refl; below = lt })

-- one more hop
pub Reaches-step : (w : Ways) (from limit u p : ℕ) (a : Arc) → Reaches w from limit u p → Leaves w u a → IsTrue (w.lets u p) → p + a.length < limit → Reaches w from limit a.to (p + a.length)
Reaches-step w from limit u p a r leaves lets lt =
    let b : PassesBy w from limit u r.0 p = r.1 in (
      from ∷ map (λ (x : Arc). x.to) (b.walk ++ a ∷ []),
      record {
        walk = b.walk ++ a ∷ [];
        passes = Passes-snoc w from 0 b.walk a b.passes (rw b.ends leaves) (rw (b.ends, zero-add, b.sums) lets);
        visits = refl;
        ends = last_stop-snoc from b.walk a;
        sums = sum-snoc b.walk a ∙ ap (λ d. d + a.length) b.sums;
        below = lt;
      },
    )
