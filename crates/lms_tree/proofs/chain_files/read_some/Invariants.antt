use Rattle.std.proofs.Common.{◌-◌}
use Rattle.lms_tree.specs.ChainFiles.{link_row, many_at}
use Rattle.lms_tree.proofs.ChainLemmas.{Begun}
use Rattle.lms_tree.proofs.chain_files.read_some.Given as goal

abbrev pub invariant-loop : goal.invariant-loop
invariant-loop l = Begun link_row l.links.items (l.most - l.counter) l.cursor (many_at link_row l.most l.fn.cursor)
