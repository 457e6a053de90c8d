use Rattle.guarded_run.proofs.CallLaws.{call_part}
use Rattle.guarded_run.proofs.laws.guarded_calls_are_steps.Goals as goal

pub returns : goal.returns
returns g c awaited asked first sight signer spending end l after_l s after_s i after_k old new ms after_ms gone after_gone guards before =
    call_part g.L.Library g.S.Source g.I.Sink g.K.Sink awaited g.D.Disk g.M.Mirror asked first sight signer spending end l after_l s after_s i after_k old new ms after_ms gone after_gone guards before
