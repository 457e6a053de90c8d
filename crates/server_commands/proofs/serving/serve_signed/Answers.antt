use Rattle.std.proofs.Common.{◌≡◌, sym, [], ◌∷◌, append-nil, ◌∙◌}
use Rattle.std.proofs.lemmas.Result.{err_from_is_err_and}
use Rattle.std.specs.Option.{option_map}
use Rattle.std.specs.declared.result.Result.TheVariants.{Ok}
use Rattle.command_files.specs.Reading.{publication_at}
use Rattle.command_files.proofs.Asked.{asks_front}
use Rattle.command_files.proofs.Written.{moved}
use Rattle.server_commands.specs.Guarding.{guarded}
use Rattle.server_commands.specs.Serving.{EndsServe}
use Rattle.server_commands.proofs.GuardFiles.{front_behind}
use Rattle.server_commands.proofs.ServeCommand.{unread_serves, no_publication, unread_guard_serves, unread_guard_promised, both_hold}
use Rattle.server_commands.proofs.serving.serve_signed.Goals as goal

pub returns-in_err-publication-clause-asked : goal.returns-in_err-publication-clause-asked
returns-in_err-publication-clause-asked g c = asks_front (_ ∷ []) _ _ _ c.in_err-publication.ensures.asked

pub returns-in_err-publication-clause-serves : goal.returns-in_err-publication-clause-serves
returns-in_err-publication-clause-serves g c =
    let p = err_from_is_err_and c.from_residual.result c.from_residual.ensures.1 in
    let loads = c.in_err-publication.ensures.loads in
    rw (p.1, p.2) (unread_serves (λ folder. publication_at folder c.args.publication.now) _ (guarded c.args.publication.now c.args.key.now (option_map (λ word. word.now) c.args.chain)) _ _ _ _ _ loads.others (λ folder input f is. no_publication (λ g q. EndsServe g input q) (guarded c.args.publication.now c.args.key.now (option_map (λ word. word.now) c.args.chain)) folder f is) loads.read)

pub returns-in_err-publication-clause-gave : goal.returns-in_err-publication-clause-gave
returns-in_err-publication-clause-gave g c =
    let p = err_from_is_err_and c.from_residual.result c.from_residual.ensures.1 in
    let loads = c.in_err-publication.ensures.loads in
    record {
      octets = [];
      gave = sym (append-nil _);
      is = rw (p.1, p.2) (unread_serves (λ folder. publication_at folder c.args.publication.now) _ (guarded c.args.publication.now c.args.key.now (option_map (λ word. word.now) c.args.chain)) _ _ _ _ _ loads.others (λ folder input f is. no_publication (λ g q. EndsServe g input q) (guarded c.args.publication.now c.args.key.now (option_map (λ word. word.now) c.args.chain)) folder f is) loads.read);
    }

pub returns-in_err-guard-clause-promised : goal.returns-in_err-guard-clause-promised
returns-in_err-guard-clause-promised g c =
    let p = err_from_is_err_and c.from_residual-in_err-guard.result c.from_residual-in_err-guard.ensures.1 in
    rw (p.1, p.2) (unread_guard_promised _ (guarded c.args.publication.now c.args.key.now (option_map (λ word. word.now) c.args.chain)) _ _ _ _ _ _ _ c.in_ok-publication.ensures.loads.kept (moved _ _ (λ folder. publication_at folder c.args.publication.now ≡ Ok c.in_ok-publication.publication) c.in_err-guard.ensures.narrows c.in_ok-publication.ensures.loads.read) c.in_err-guard.ensures.loads)

pub returns-in_err-guard-clause-asked : goal.returns-in_err-guard-clause-asked
returns-in_err-guard-clause-asked g c = front_behind _ _ _ _ _ c.in_ok-publication.ensures.asked c.in_err-guard.ensures.asked

pub returns-in_err-guard-clause-serves : goal.returns-in_err-guard-clause-serves
returns-in_err-guard-clause-serves g c =
    let p = err_from_is_err_and c.from_residual-in_err-guard.result c.from_residual-in_err-guard.ensures.1 in
    let loads = c.in_err-guard.ensures.loads in
    rw (p.1, p.2) (unread_guard_serves _ (guarded c.args.publication.now c.args.key.now (option_map (λ word. word.now) c.args.chain)) _ _ _ _ _ _ loads.others (moved _ _ (λ folder. publication_at folder c.args.publication.now ≡ Ok c.in_ok-publication.publication) c.in_err-guard.ensures.narrows c.in_ok-publication.ensures.loads.read) loads.read)

pub returns-in_err-guard-clause-gave : goal.returns-in_err-guard-clause-gave
returns-in_err-guard-clause-gave g c =
    let p = err_from_is_err_and c.from_residual-in_err-guard.result c.from_residual-in_err-guard.ensures.1 in
    let loads = c.in_err-guard.ensures.loads in
    record {
      octets = [];
      gave = sym (append-nil _);
      is = rw (p.1, p.2) (unread_guard_serves _ (guarded c.args.publication.now c.args.key.now (option_map (λ word. word.now) c.args.chain)) _ _ _ _ _ _ loads.others (moved _ _ (λ folder. publication_at folder c.args.publication.now ≡ Ok c.in_ok-publication.publication) c.in_err-guard.ensures.narrows c.in_ok-publication.ensures.loads.read) loads.read);
    }

pub returns-clause-promised : goal.returns-clause-promised
returns-clause-promised g c = c.serve_tested.ensures.promised _ (guarded c.args.publication.now c.args.key.now (option_map (λ word. word.now) c.args.chain)) c.in_ok-guard.ensures.named (both_hold _ _ (guarded c.args.publication.now c.args.key.now (option_map (λ word. word.now) c.args.chain)) _ _ c.in_ok-guard.ensures.narrows c.in_ok-publication.ensures.loads.read c.in_ok-guard.ensures.loads.read) _ _

pub returns-clause-library : goal.returns-clause-library
returns-clause-library g c = λ free. c.in_ok-guard.ensures.loads.kept ∙ c.in_ok-publication.ensures.loads.kept

pub returns-clause-asked : goal.returns-clause-asked
returns-clause-asked g c = front_behind _ _ _ _ _ c.in_ok-publication.ensures.asked c.in_ok-guard.ensures.asked

pub returns-clause-serves : goal.returns-clause-serves
returns-clause-serves g c = c.serve_tested.ensures.serves _ (guarded c.args.publication.now c.args.key.now (option_map (λ word. word.now) c.args.chain)) c.in_ok-guard.ensures.named (both_hold _ _ (guarded c.args.publication.now c.args.key.now (option_map (λ word. word.now) c.args.chain)) _ _ c.in_ok-guard.ensures.narrows c.in_ok-publication.ensures.loads.read c.in_ok-guard.ensures.loads.read)

pub returns-clause-gave : goal.returns-clause-gave
returns-clause-gave g c = c.serve_tested.ensures.gave _ (guarded c.args.publication.now c.args.key.now (option_map (λ word. word.now) c.args.chain)) c.in_ok-guard.ensures.named (both_hold _ _ (guarded c.args.publication.now c.args.key.now (option_map (λ word. word.now) c.args.chain)) _ _ c.in_ok-guard.ensures.narrows c.in_ok-publication.ensures.loads.read c.in_ok-guard.ensures.loads.read)
