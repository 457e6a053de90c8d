use Rattle.std.proofs.Common.{take}
use Rattle.method_books.specs.HypBooks.{IsInRow, AddsAll}
use Rattle.method_books.proofs.gathering.add_rows.Given as goal

abbrev pub invariant-loop-border : goal.invariant-loop-border
invariant-loop-border l = AddsAll (IsInRow l.pairs l.most l.far) (take l.border-index l.near) l.fn.places.items l.places.items
