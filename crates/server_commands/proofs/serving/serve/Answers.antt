use Rattle.std.proofs.Common.{sym, refl, [], append-nil}
use Rattle.std.proofs.lemmas.Result.{err_from_is_err_and}
use Rattle.command_files.specs.Reading.{publication_at}
use Rattle.server_commands.specs.Guarding.{unguarded}
use Rattle.server_commands.specs.Serving.{EndsServe}
use Rattle.server_commands.proofs.ServeCommand.{unread_serves, no_publication, open_holds, ended_done}
use Rattle.server_commands.proofs.serving.serve.Goals as goal

pub returns-in_err-publication-clause-serves : goal.returns-in_err-publication-clause-serves
returns-in_err-publication-clause-serves g c =
    let p = err_from_is_err_and c.from_residual.result c.from_residual.ensures.1 in
    let loads = c.in_err-publication.ensures.loads in
    rw (p.1, p.2) (unread_serves (λ folder. publication_at folder c.args.publication.now) _ (unguarded c.args.publication.now) _ _ _ _ _ loads.others (λ folder input f is. no_publication (λ g q. EndsServe g input q) (unguarded c.args.publication.now) folder f is) loads.read)

pub returns-in_err-publication-clause-gave : goal.returns-in_err-publication-clause-gave
returns-in_err-publication-clause-gave g c =
    let p = err_from_is_err_and c.from_residual.result c.from_residual.ensures.1 in
    let loads = c.in_err-publication.ensures.loads in
    record {
      octets = [];
      gave = sym (append-nil _);
      is = rw (p.1, p.2) (unread_serves (λ folder. publication_at folder c.args.publication.now) _ (unguarded c.args.publication.now) _ _ _ _ _ loads.others (λ folder input f is. no_publication (λ g q. EndsServe g input q) (unguarded c.args.publication.now) folder f is) loads.read);
    }

pub returns-clause-promised : goal.returns-clause-promised
returns-clause-promised g c = c.serve_tested.ensures.promised _ (unguarded c.args.publication.now) refl (open_holds _ _ _ c.in_ok-publication.ensures.loads.read) _ _

pub returns-clause-library : goal.returns-clause-library
returns-clause-library g c = λ free. c.in_ok-publication.ensures.loads.kept

pub returns-clause-serves : goal.returns-clause-serves
returns-clause-serves g c = c.serve_tested.ensures.serves _ (unguarded c.args.publication.now) refl (open_holds _ _ _ c.in_ok-publication.ensures.loads.read)

pub returns-clause-gave : goal.returns-clause-gave
returns-clause-gave g c = c.serve_tested.ensures.gave _ (unguarded c.args.publication.now) refl (open_holds _ _ _ c.in_ok-publication.ensures.loads.read)

pub returns-clause-ended : goal.returns-clause-ended
returns-clause-ended g c = ended_done _ _ (c.serve_tested.ensures.done refl) c.serve_tested.ensures.ended
