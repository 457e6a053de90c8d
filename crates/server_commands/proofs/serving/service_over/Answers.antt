use Rattle.std.proofs.Common.{◌∙◌, ap}
use Rattle.route_service.specs.Machine.{first_state}
use Rattle.server_commands.proofs.serving.service_over.Goals as goal

pub returns-in-Ok-clause-starts : goal.returns-in-Ok-clause-starts
returns-in-Ok-clause-starts c = c.in-Ok.ensures ∙ ap (first_state c.args.guard) c.in_ok-held.ensures.held
