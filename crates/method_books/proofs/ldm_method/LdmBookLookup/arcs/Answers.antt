use Rattle.method_books.proofs.NodeLaws.{arcs_at, no_arcs}
use Rattle.method_books.proofs.ldm_method.LdmBookLookup.arcs.Goals as goal

pub returns-in-None : goal.returns-in-None
returns-in-None c = no_arcs c.args.self.now.map.parts c.args.self.now.map.order c.args.self.now.extras.entries c.args.self.now.numbers c.parts-parts.ensures.by_id c.args.id c.in-None.ensures.none

pub returns-in-Some : goal.returns-in-Some
returns-in-Some c = arcs_at c.args.self.now.map.parts c.args.self.now.map.order c.args.self.now.extras.entries c.args.self.now.numbers c.parts-parts.ensures.is_map c.parts-parts.ensures.by_id c.args.id c.in-Some.position c.arcs.result.now c.in-Some.ensures.found c.arcs.ensures
