use Rattle.std.proofs.Common.{◌∙◌}
use Rattle.method_books.proofs.WithinLaws.{found_apart_dij}
use Rattle.method_books.proofs.dij.DijBookMethodBook.gather_apart.Goals as goal

pub returns : goal.returns
returns c = found_apart_dij c.args.self.now.map.parts c.args.query (record { route = c.from_vec.result; nodes = c.in_ok-nodes.nodes; pairs = c.from_vec-2.result }) c.requires (c.from_vec.ensures ∙ c.new.ensures.items) c.in_ok-nodes.ensures (c.from_vec-2.ensures ∙ c.new-2.ensures.items)
