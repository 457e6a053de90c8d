use Rattle.std.proofs.Common.{take}
use Rattle.method_books.specs.HypBooks.{IsPairAt, AddsAll}
use Rattle.method_books.proofs.gathering.add_row.Given as goal

abbrev pub invariant-loop-border : goal.invariant-loop-border
invariant-loop-border l = AddsAll (IsPairAt l.pairs l.most l.near) (take l.border-index l.far) l.fn.places.items l.places.items
