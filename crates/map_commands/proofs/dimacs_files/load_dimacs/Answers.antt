use Rattle.std.proofs.Common.{◌∷◌, []}
use Rattle.command_files.proofs.Asked.{then_asked, asks_front, asks_all}
use Rattle.map_commands.proofs.dimacs_files.load_dimacs.Goals as goal

pub returns-in_err-graph-clause-asked : goal.returns-in_err-graph-clause-asked
returns-in_err-graph-clause-asked g c = asks_front (_ ∷ []) _ _ _ c.in_err-graph.ensures.asked

pub returns-in_err-places-clause-asked : goal.returns-in_err-places-clause-asked
returns-in_err-places-clause-asked g c = asks_all _ _ _ (then_asked _ _ _ _ _ c.in_ok-graph.ensures.asked c.in_err-places.ensures.asked)

pub returns-in-Ok-clause-asked : goal.returns-in-Ok-clause-asked
returns-in-Ok-clause-asked g c = asks_all _ _ _ (then_asked _ _ _ _ _ c.in_ok-graph.ensures.asked c.in_ok-places.ensures.asked)

pub returns-in-Err-Memory-clause-asked : goal.returns-in-Err-Memory-clause-asked
returns-in-Err-Memory-clause-asked g c = asks_all _ _ _ (then_asked _ _ _ _ _ c.in_ok-graph.ensures.asked c.in_ok-places.ensures.asked)

pub returns-clause-asked : goal.returns-clause-asked
returns-clause-asked g c = asks_all _ _ _ (then_asked _ _ _ _ _ c.in_ok-graph.ensures.asked c.in_ok-places.ensures.asked)
