-- Walks over rows of arcs, one after another.
use Rattle.std.proofs.Common.{◌≡◌, ℕ, ◌+◌, ◌≤◌, List, [], ◌∷◌, ◌++◌, refl, arith, ap, sym, ◌∙◌, subst}
use Rattle.road_map.specs.declared.arc.Arc.{Arc}
use Rattle.road_map.specs.Routes.{last_stop, walk_length}
use Rattle.road_search.specs.Passing.{Passes}
use Rattle.road_search.specs.Nets.{net_ways}

-- the length before the first arc does not matter
moved : (rows : List (List Arc)) (u l k : ℕ) (walk : List Arc) → Passes (net_ways rows) u l walk → Passes (net_ways rows) u k walk
moved rows u l k [] h = tt
moved rows u l k (a ∷ walk) h = (h.0, refl, moved rows a.to (l + a.length) (k + a.length) walk h.2)

pub join : (rows : List (List Arc)) (u k l : ℕ) (walk more : List Arc) → Passes (net_ways rows) u k walk → Passes (net_ways rows) (last_stop u walk) l more → Passes (net_ways rows) u k (walk ++ more)
join rows u k l [] more h g = moved rows u l k more g
join rows u k l (a ∷ walk) more h g = (h.0, refl, join rows a.to (k + a.length) l walk more h.2 g)

pub join_length : (walk more : List Arc) → walk_length (walk ++ more) ≡ walk_length walk + walk_length more
join_length [] more = omega arith
join_length (a ∷ walk) more = let e : walk_length (walk ++ more) ≡ walk_length walk + walk_length more = join_length walk more in omega (arith, e)

pub join_end : (u : ℕ) (walk more : List Arc) → last_stop u (walk ++ more) ≡ last_stop (last_stop u walk) more
join_end u [] more = refl
join_end u (a ∷ walk) more = join_end a.to walk more

-- a walk from i to j of length at most e
pub record Way (rows : List (List Arc)) (i j e : ℕ) : Type 0 where
  pub links : List Arc
  pub passes : (k : ℕ) → Passes (net_ways rows) i k links
  pub ends : last_stop i links ≡ j
  pub near : walk_length links ≤ e

pub nearer : (rows : List (List Arc)) (i j d e : ℕ) → d ≤ e → Way rows i j d → Way rows i j e
nearer rows i j d e le h = record { links = h.links; passes = h.passes; ends = h.ends; near = omega (arith, le, h.near) }

pub after : (rows : List (List Arc)) (i m j d e : ℕ) → Way rows i m d → Way rows m j e → Way rows i j (d + e)
after rows i m j d e f g = record {
  links = f.links ++ g.links;
  passes = λ k. join rows i k 0 f.links g.links (f.passes k) (subst (λ t. Passes (net_ways rows) t 0 g.links) (sym f.ends) (g.passes 0));
  ends = join_end i f.links g.links ∙ (ap (λ t. last_stop t g.links) f.ends ∙ g.ends);
  near = (let l : walk_length (f.links ++ g.links) ≡ walk_length f.links + walk_length g.links = join_length f.links g.links in omega (arith, l, f.near, g.near));
}
