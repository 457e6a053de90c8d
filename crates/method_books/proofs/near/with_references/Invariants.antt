use Rattle.std.proofs.Common.{◌≡◌, ◌++◌, take}
use Rattle.std.specs.List.{filter_map}
use Rattle.method_books.specs.LdmBooks.{reference_in}
use Rattle.method_books.proofs.near.with_references.Given as goal

abbrev pub invariant-loop-id : goal.invariant-loop-id
invariant-loop-id l = l.all.items ≡ l.ids ++ filter_map (reference_in l.book.extras.entries) (take l.id-index l.ids)
