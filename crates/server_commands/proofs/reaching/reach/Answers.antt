use Rattle.std.proofs.Common.{List, ℕ, sym, subst}
use Rattle.std.specs.declared.result.Result.TheVariants.{Ok}
use Rattle.std.proofs.lemmas.Result.{err_from_is_err_and}
use Rattle.command_files.specs.declared.ended.Conclusion.TheVariants.{Done}
use Rattle.server_commands.specs.NearReaching.{EndsReach}
use Rattle.server_commands.proofs.NearReachLemmas.{reach_refused, reply_written}
use Rattle.server_commands.proofs.reaching.reach.Goals as goal

pub returns-in_err-text-clause-promised : goal.returns-in_err-text-clause-promised
returns-in_err-text-clause-promised g c =
    let p = err_from_is_err_and c.from_residual-in_err-text.result c.from_residual-in_err-text.ensures.1 in
    rw (p.1, p.2) (reach_refused _ _ _ _ _ _ _ _ c.in_ok-publication.ensures.loads.read _ _ c.in_err-text.ensures.refused)

pub returns-clause-promised : goal.returns-clause-promised
returns-clause-promised g c =
    reply_written _ _ _ _ _ _ _ _ c.in_ok-publication.ensures.loads.read _ _ _ c.deref.result.now
    (subst (λ (xs : List ℕ). EndsReach c.args.query c.in_ok-publication.publication (Ok Done) xs) (sym c.deref.ensures.value) c.in_ok-text.ensures.replied) c.write_text.ensures.writes
