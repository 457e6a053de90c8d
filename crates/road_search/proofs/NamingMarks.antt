-- Marks of positions, converted one by one into marks of the ids of their nodes.
use Rattle.std.proofs.Common.{◌≡◌, ℕ, Option, None, List, [], ap, ◌∙◌}
use Rattle.std.specs.Option.{option_map}
use Rattle.road_map.specs.declared.parts.Node.{Node}
use Rattle.road_map.specs.Places.{StandsAt, AreRising}
use Rattle.road_map.specs.Nets.{IsPlace}
use Rattle.road_map.specs.Walks.{ids}
use Rattle.road_map.proofs.Among.{place_map, map_place}
use Rattle.road_search.specs.declared.marks.Mark.{Mark}
use Rattle.road_search.specs.Listing.{mark_by, listed_by}
use Rattle.road_search.specs.Nets.{named, AreNamed}
use Rattle.road_map.proofs.RisingLaws.{found, missing}

pub are_named : (order : List Node) (marks after g : ℕ → Option Mark) → AreRising (ids order) → ((p : ℕ) → after p ≡ option_map (named order) (marks p)) → ((id : ℕ) → g id ≡ listed_by (ids order) after [] id) → AreNamed order marks g
are_named order marks after g rise all is = record {
  each = λ id p at. is id ∙ (ap (mark_by after None) (found (ids order) id p rise (at.0.id, place_map (λ (n : Node). n.id) order p at.0 at.1, at.2)) ∙ all p);
  others = λ id none. is id ∙ ap (mark_by after None) (missing (ids order) id (λ k at. nowhere id none k at));
}
  where
    nowhere : (id : ℕ) → ((p : ℕ) → IsPlace order id p → ⊥) → (k : ℕ) → StandsAt (λ i. i) (ids order) id k → ⊥
    nowhere id none k at = let n = map_place (λ (m : Node). m.id) order k at.0 at.1 in none k (n.0, n.1, n.2 ∙ at.2)
