use Rattle.std.proofs.Common.{◌∙◌}
use Rattle.method_books.proofs.FullLaws.{found_apart_full}
use Rattle.method_books.proofs.full.FullBookMethodBook.gather_apart.Goals as goal

pub returns : goal.returns
returns c = found_apart_full c.args.self.now.map.parts c.args.self.now.pairs c.args.query (record { route = c.from_vec.result; nodes = c.in_ok-nodes.nodes; pairs = c.in_ok-pairs.pairs }) c.requires (c.from_vec.ensures ∙ c.new.ensures.items) c.in_ok-nodes.ensures c.in_ok-pairs.ensures
