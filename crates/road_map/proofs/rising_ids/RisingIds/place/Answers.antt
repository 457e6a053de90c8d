use Rattle.std.proofs.Common.{sym, subst, ap, ◌∙◌}
use Rattle.road_map.specs.Places.{StandsAt, place_in}
use Rattle.road_map.proofs.RisingLaws.{found}
use Rattle.road_map.proofs.rising_ids.RisingIds.place.Goals as goal

pub returns-in-Some : goal.returns-in-Some
returns-in-Some c =
    sym (found c.self.inside.ids.items c.args.id c.in-Some.place c.self.invariant (subst (λ is. StandsAt (λ i. i) is c.args.id c.in-Some.place) c.as_slice.ensures.value c.in-Some.ensures))
    ∙ ap (λ is. place_in is c.args.id) c.self.view_is
