use Rattle.route_audit.proofs.Signed.{folds_nodes}
use Rattle.route_audit.proofs.comparing.clash_of_nodes.Goals as goal

pub clash_under-requires-clause-folds : goal.clash_under-requires-clause-folds
clash_under-requires-clause-folds g c =
    rw (c.as_slice.ensures, c.requires.texts, c.as_slice-2.ensures) (folds_nodes g.H.Hasher.hash c.args.held.now c.args.answer.now c.requires.same c.requires.covered)
