use Rattle.std.proofs.Common.{rules}
use Rattle.std.proofs.lemmas.List.Sorted.{answers_always}
use Rattle.dimacs_reader.specs.Left.{three_of}
use Rattle.dimacs_reader.proofs.pairing.sorted_arcs.Goals as goal

pub returns-clause-sorted : goal.returns-clause-sorted
returns-clause-sorted c = c.sort_unstable_by_key.ensures.sorted three_of (answers_always _ _ _ (λ f a r g h. search rules))
