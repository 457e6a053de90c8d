-- The answer of a service to a range query.
use Rattle.std.specs.Prelude.{◌≡◌, ◌⊎◌, ℕ, List, [], ◌∷◌}
use Rattle.road_map.specs.Walks.{Knows}
use Rattle.proof_octets.specs.declared.publication.Publication.{Publication}
use Rattle.proof_octets.specs.declared.query.NearQuery.{NearQuery}
use Rattle.route_server.specs.NearHonesty.{IsNearHonest}

-- the honest reply, or the one octet which states that the start is not a node of the map
unfoldable pub IsNearAnswer : (List ℕ → List ℕ) → (List ℕ → List ℕ) → Publication → NearQuery →
    List ℕ → Type 0
IsNearAnswer hash sha p q octets = IsNearHonest hash sha p q octets ⊎
    ((¬ Knows p.parts q.from) × (octets ≡ 1 ∷ []))
