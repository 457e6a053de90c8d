use Rattle.std.proofs.Common.{None, sym, refl, ◌∙◌, ap}
use Rattle.std.specs.Option.{option_map}
use Rattle.road_search.specs.declared.ball.Ball.{Ball}
use Rattle.road_search.proofs.WholeMapLaws.{no_walk}
use Rattle.method_books.proofs.dij.reach_all.Goals as goal

pub returns-in-None-clause-refused : goal.returns-in-None-clause-refused
returns-in-None-clause-refused c = (
  c.knows.ensures.0 c.if-not-knows.false,
  c.knows-2.ensures.0 c.if-not-knows-2.false,
  no_walk c.args.map.now.parts (c.map_laws.ensures.distances c.args.map.now.parts c.parts-parts.ensures.is_map) c.args.query.from c.args.query.to None (ap (option_map (λ (ball : Ball). ball.length)) (sym c.in-None.is) ∙ c.in_ok-found.ensures.length) refl,
)

pub returns-in-Some-clause-nodes : goal.returns-in-Some-clause-nodes
returns-in-Some-clause-nodes c = record { rising = rw c.in-Some.is at c.in_ok-found.ensures.rising; same = rw c.in-Some.is at c.in_ok-found.ensures.near }
