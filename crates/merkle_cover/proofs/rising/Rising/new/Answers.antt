use Rattle.std.proofs.Common.{sym, ◌∙◌}
use Rattle.merkle_cover.proofs.FoldLemmas.{rising-first_fault}
use Rattle.merkle_cover.proofs.rising.Rising.new.Goals as goal

pub seed-requires-clause-places : goal.seed-requires-clause-places
seed-requires-clause-places g c = rising-first_fault c.args.leaves c.args.places.now (sym c.in-None.ensures)
