use Rattle.std.proofs.Common.{sym, ap, [], append-nil, ◌∙◌, arith}
use Rattle.std.specs.declared.option.Option.TheVariants.{Some}
use Rattle.std.proofs.lemmas.Result.{err_from_is_err_and}
use Rattle.route_service.proofs.Splits.{serves_input}
use Rattle.server_commands.specs.Serving.{most_octets, most_frames}
use Rattle.server_commands.specs.ServingEnds.{ended_serving}
use Rattle.server_commands.proofs.ServeCommand.{serve_refused, refused_serves, serve_ends, serves_frames, done_serving}
use Rattle.server_commands.proofs.serving.serve_over.Goals as goal

pub returns-in_err-service-clause-promised : goal.returns-in_err-service-clause-promised
returns-in_err-service-clause-promised g c = λ files named fits holds before now.
    let p = err_from_is_err_and c.from_residual.result c.from_residual.ensures.1 in
    rw (p.1, p.2) (serve_refused files named c.args.guard c.args.publication before now _ _ c.requires.passed holds _ _ c.in_err-service.ensures.refused)

pub returns-in_err-service-clause-serves : goal.returns-in_err-service-clause-serves
returns-in_err-service-clause-serves g c = λ files named fits holds.
    let p = err_from_is_err_and c.from_residual.result c.from_residual.ensures.1 in
    rw (p.1, p.2) (refused_serves files named c.args.guard c.args.publication 0 0 0 0 c.requires.passed holds _ _ _ _ _ c.in_err-service.ensures.refused)

pub returns-in_err-service-clause-gave : goal.returns-in_err-service-clause-gave
returns-in_err-service-clause-gave g c = λ files named fits holds.
    let p = err_from_is_err_and c.from_residual.result c.from_residual.ensures.1 in
    record { octets = []; gave = sym (append-nil _); is = rw (p.1, p.2) (refused_serves files named c.args.guard c.args.publication 0 0 0 0 c.requires.passed holds _ _ _ _ _ c.in_err-service.ensures.refused) }

pub returns-clause-promised : goal.returns-clause-promised
returns-clause-promised g c = λ files named fits holds before now.
    rw c.ended_serving.ensures (serve_ends files named c.args.guard c.args.publication before now _ _ c.requires.passed holds c.in_ok-service.ensures.installable _ _ _ c.serve-served.result _
    c.in_ok-service.ensures.starts c.serve-served.ensures.input c.serve-served.ensures.sink)

pub returns-clause-source : goal.returns-clause-source
returns-clause-source g c other = c.serve-served.ensures.source_kept (λ is. other (c.ended_serving.ensures ∙ ap ended_serving is))

pub returns-clause-sink : goal.returns-clause-sink
returns-clause-sink g c other = c.serve-served.ensures.sink_kept (λ is. other (c.ended_serving.ensures ∙ ap ended_serving is))

pub returns-clause-serves : goal.returns-clause-serves
returns-clause-serves g c = λ files named fits holds.
    rw c.ended_serving.ensures (serves_frames files named c.args.guard c.args.publication 0 0 0 0 c.requires.passed holds c.in_ok-service.ensures.installable fits _ _ _ _ _ _ c.serve-served.result _ _
    c.in_ok-service.ensures.starts c.serve-served.ensures.input c.serve-served.ensures.serves c.serve-served.ensures.source)

pub returns-clause-gave : goal.returns-clause-gave
returns-clause-gave g c = λ files named fits holds.
    let t = c.serve-served.ensures.gave in
    let input = serves_input _ _ _ _ most_octets most_frames (Some t.octets) (Some []) _ _ _ (omega arith) t.is in
    record {
      octets = t.octets;
      gave = t.gave;
      is = rw c.ended_serving.ensures (serves_frames files named c.args.guard c.args.publication 0 0 0 0 c.requires.passed holds c.in_ok-service.ensures.installable fits (Some t.octets) (Some []) _ _ _ _ c.serve-served.result _ _
          c.in_ok-service.ensures.starts input t.is c.serve-served.ensures.source);
    }

pub returns-clause-done : goal.returns-clause-done
returns-clause-done g c = rw c.ended_serving.ensures (done_serving c.serve-served.result)
