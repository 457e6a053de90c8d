use Rattle.std.proofs.Common.{take}
use Rattle.std.specs.Prelude.{All}
use Rattle.merkle_cover.specs.Cuts.{IsIn}
use Rattle.merkle_cover.proofs.cuts.are_in.Given as goal

abbrev pub invariant-loop-cut : goal.invariant-loop-cut
invariant-loop-cut l = All (IsIn l.octets) (take l.cut-index l.cuts)
