use Rattle.std.proofs.Common.{◌≡◌, take}
use Rattle.std.specs.List.{count_by}
use Rattle.key_desk.specs.Desk.{is_free}
use Rattle.key_desk.proofs.left.count_free.Given as goal

abbrev pub invariant-loop-count : goal.invariant-loop-count
invariant-loop-count l = l.free ≡ count_by is_free (take l.count-index l.counts)
