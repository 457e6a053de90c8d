use Rattle.std.proofs.Common.{◌∙◌, sym}
use Rattle.road_map.proofs.RisingLaws.{found, by_halves}
use Rattle.road_map.proofs.rising_ids.place_in.Goals as goal

pub returns-in-Some : goal.returns-in-Some
returns-in-Some c = sym (found c.args.ids.now c.args.id c.in-Some.place c.requires c.in-Some.ensures)

pub returns-in-None : goal.returns-in-None
returns-in-None c = c.ok.ensures.value ∙ by_halves c.args.ids.now c.args.id c.binary_search.result c.requires c.binary_search.ensures.bound c.binary_search.ensures.position
