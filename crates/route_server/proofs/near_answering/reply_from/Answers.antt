use Rattle.std.proofs.Common.{ℕ, List, All, nat_eq, sym, subst, ◌∙◌}
use Rattle.std.specs.List.{Contains, IsDistinct}
use Rattle.road_map.specs.Maps.{Charted}
use Rattle.road_map.specs.Walks.{Knows}
use Rattle.proof_octets.specs.Radius.{IsWithin}
use Rattle.route_server.proofs.NearBrought.{told_over, version_small}
use Rattle.route_server.proofs.near_answering.reply_from.Goals as goal

pub bring-requires-clause-known : goal.bring-requires-clause-known
bring-requires-clause-known g c =
    subst (λ (m : Charted). All (Knows m.parts) c.deref.result.now) c.map-map.ensures.map (subst (All (Knows c.map-map.result.now.parts)) (sym c.deref.ensures.value) c.in_ok-ids.ensures.known)

pub returns : goal.returns
returns g c =
    let k = c.args.held.now in
    let ids = c.deref.result.now in
    told_over g.H.Hasher.hash k c.args.query ids c.in_ok-brought.brought c.header-header.result c.in_ok-signature.signature g.met.H.Hasher.size (λ a good. (c.near_range_laws.ensures a).1 good) c.in_ok-brought.ensures
    (subst (IsDistinct nat_eq) (sym c.deref.ensures.value) c.in_ok-ids.ensures.distinct)
    (subst (λ (m : Charted). All (Knows m.parts) ids) c.map-map.ensures.map (subst (All (Knows c.map-map.result.now.parts)) (sym c.deref.ensures.value) c.in_ok-ids.ensures.known))
    (λ id. subst (λ (m : Charted). (Contains ids id → IsWithin m.parts c.args.query id) × (IsWithin m.parts c.args.query id → Contains ids id)) c.map-map.ensures.map
    (subst (λ (xs : List ℕ). (Contains xs id → IsWithin c.map-map.result.now.parts c.args.query id) × (IsWithin c.map-map.result.now.parts c.args.query id → Contains xs id)) (sym c.deref.ensures.value) (c.in_ok-ids.ensures.same id)))
    c.header-header.ensures (c.header_laws.ensures k c.in_ok-brought.ensures.kept (version_small g.H.Hasher.hash k c.header-header.result c.header-header.ensures c.version_fits.ensures))
    (c.in_ok-signature.ensures ∙ c.signature.ensures) c.requires.signature
