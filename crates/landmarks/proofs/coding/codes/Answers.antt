use Rattle.std.proofs.Common.{refl, sym, ◌∙◌}
use Rattle.book_model.specs.Orders.{by_id}
use Rattle.landmarks.proofs.CodeLaws.{map_short, map_table}
use Rattle.landmarks.proofs.coding.codes.Goals as goal

pub table_of-requires-clause-short : goal.table_of-requires-clause-short
table_of-requires-clause-short c = map_short c.args.map.now.parts (c.map_laws.ensures.distances c.args.map.now.parts c.parts-parts.ensures.is_map) (by_id c.args.map.now.parts.nodes) c.in_ok-ids.ids.items c.in_ok-ids.ids.items c.args.chosen.now c.deref.result.now (sym c.in_ok-ids.ensures.ids) refl (c.deref.ensures.value ∙ c.in_ok-rows.ensures)

pub returns-clause-table : goal.returns-clause-table
returns-clause-table c = map_table c.args.map.now.parts (by_id c.args.map.now.parts.nodes) c.in_ok-ids.ids.items c.in_ok-ids.ids.items c.args.chosen.now c.deref.result.now c.args.bits c.in_ok-table.table (sym c.in_ok-ids.ensures.ids) refl c.in_ok-ids.ensures.ids (c.deref.ensures.value ∙ c.in_ok-rows.ensures) c.in_ok-table.ensures.step c.in_ok-table.ensures.codes
