-- Invariants while labels spread from a root, layer by layer.
use Rattle.std.specs.Prelude.{ℕ, ◌+◌, ◌≤◌, Option, List, Contains, length}
use Rattle.road_map.specs.Maps.{Charted}
use Rattle.road_order.specs.Spreads.{HasLabel, AllAtMost, IsSpread, ClosedBut, Keeps, unlabelled}
use Rattle.road_order.specs.declared.label.Label.{Label}

-- Labels that have spread this many hops from a root: the last layer was met last, and everything before it is
-- closed.
pub record Layered (map : Charted) (labels labels' : List (Option Label)) (root hops : ℕ)
    (layer : List ℕ) : Type 0 where
  pub spread : IsSpread map labels'
  pub keeps : Keeps labels labels'
  pub rooted : HasLabel labels' root (record { root = root; hops = 0 })
  pub most : AllAtMost labels' (record { root = root; hops = hops })
  pub last : (p : ℕ) → Contains layer p → HasLabel labels' p (record { root = root; hops = hops })
  pub closed : ClosedBut map labels' layer
  pub room : hops + unlabelled labels' + length layer ≤ length map.order
