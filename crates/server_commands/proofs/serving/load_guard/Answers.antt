use Rattle.std.proofs.Common.{◌∷◌, []}
use Rattle.std.proofs.lemmas.Result.{err_from_is_err_and}
use Rattle.command_files.proofs.Asked.{then_asked, asks_front, asks_all}
use Rattle.server_commands.proofs.GuardFiles.{no_key_loads, no_chain_loads, guard_loads}
use Rattle.server_commands.proofs.serving.load_guard.Goals as goal

pub returns-in_err-key-clause-loads : goal.returns-in_err-key-clause-loads
returns-in_err-key-clause-loads g c =
    let p = err_from_is_err_and c.from_residual.result c.from_residual.ensures.1 in
    rw (p.1, p.2) (no_key_loads c.args.key.now _ _ _ _ _ c.in_err-key.ensures.loads)

pub returns-in_err-links-clause-loads : goal.returns-in_err-links-clause-loads
returns-in_err-links-clause-loads g c =
    let p = err_from_is_err_and c.from_residual-in_err-links.result c.from_residual-in_err-links.ensures.1 in
    rw (p.1, p.2) (no_chain_loads c.args.key.now _ _ _ _ _ _ _ _ c.in_err-links.ensures.narrows c.in_ok-key.ensures.loads.read c.in_ok-key.ensures.loads.kept c.in_err-links.ensures.loads)

pub returns-clause-loads : goal.returns-clause-loads
returns-clause-loads g c =
    guard_loads c.args.key.now _ _ _ _ _ _ _ _ c.in_ok-links.ensures.narrows c.in_ok-key.ensures.loads.read c.in_ok-links.ensures.loads.read c.in_ok-key.ensures.loads.kept c.in_ok-links.ensures.loads.kept

pub returns-in_err-key-clause-asked : goal.returns-in_err-key-clause-asked
returns-in_err-key-clause-asked g c = asks_front (_ ∷ []) _ _ _ c.in_err-key.ensures.asked

pub returns-in_err-links-clause-asked : goal.returns-in_err-links-clause-asked
returns-in_err-links-clause-asked g c = asks_all _ _ _ (then_asked _ _ _ _ _ c.in_ok-key.ensures.asked c.in_err-links.ensures.asked)

pub returns-clause-asked : goal.returns-clause-asked
returns-clause-asked g c = asks_all _ _ _ (then_asked _ _ _ _ _ c.in_ok-key.ensures.asked c.in_ok-links.ensures.asked)

pub returns-clause-named : goal.returns-clause-named
returns-clause-named g c = λ is. cc
