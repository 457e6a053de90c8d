use Rattle.std.proofs.Common.{sym, subst, ap, ◌∙◌}
use Rattle.road_map.specs.Places.{StandsAt, AreRising, place_in}
use Rattle.road_map.proofs.RisingLaws.{found}
use Rattle.road_map.proofs.rising_ids.RisingIds.place_by_span.Goals as goal

pub returns-in-Some : goal.returns-in-Some
returns-in-Some c =
    sym (found c.self.inside.ids.items c.args.id c.in-Some.place c.self.invariant (subst (λ is. StandsAt (λ i. i) is c.args.id c.in-Some.place) c.as_slice.ensures.value c.in-Some.ensures))
    ∙ ap (λ is. place_in is c.args.id) c.self.view_is

pub place_in-requires : goal.place_in-requires
place_in-requires c = subst AreRising (sym c.as_slice-in-None.ensures.value) c.self.invariant

pub returns-in-None : goal.returns-in-None
returns-in-None c = c.place_in.ensures ∙ ap (λ is. place_in is c.args.id) (c.as_slice-in-None.ensures.value ∙ c.self.view_is)
