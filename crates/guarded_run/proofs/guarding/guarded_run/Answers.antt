use Rattle.std.proofs.Common.{Some, ap}
use Rattle.road_command.specs.Requests.{request_of}
use Rattle.guarded_run.proofs.GuardSteps.{begun, guards, ran, refusal, refused}
use Rattle.guarded_run.proofs.guarding.guarded_run.Goals as goal

pub returns-in-Err-clause-guards : goal.returns-in-Err-clause-guards
returns-in-Err-clause-guards g c =
    refused _ _ _ _ _ _ _ (request_of c.args.words.now) c.key-first.result c.fit_desk-spending.result.spending c.in-Err.why c.keys_used.result
    c.args.objects.library c.args.objects.source c.new.result c.args.objects.disk c.fit_desk-spending.new.disk c.args.mirrors.items c.args.gone.items
    c.keys_used.ensures
    (refusal _ c.key-first.result c.fit_desk-spending.result.spending c.fit_desk-spending.result.told c.args.objects.disk c.fit_desk-spending.new.disk c.keys_used.result c.in-Err.why c.in-Err.is
    c.fit_desk-spending.ensures.uses c.fit_desk-spending.ensures.looked c.fit_desk-spending.ensures.left c.fit_desk-spending.ensures.why c.fit_desk-spending.ensures.spent c.fit_desk-spending.ensures.fault)
    (ap Some c.new.ensures.nothing)

pub returns-clause-guards : goal.returns-clause-guards
returns-clause-guards g c =
    guards _ _ _ _ _ _ _ (request_of c.args.words.now) c.key-first.result c.in-Ok.told.sight c.in-Ok.told.signer c.fit_desk-spending.result.spending c.end_of.result c.run_on_files-ended.result
    c.args.objects.library c.run_on_files-ended.new.library c.args.objects.source c.run_on_files-ended.new.source c.args.objects.sink c.run_on_files-ended.new.sink
    c.args.objects.disk c.run_on_files-ended.new.disk c.args.mirrors.items c.run_on_files-ended.new.mirrors.items c.args.gone.items c.run_on_files-ended.new.gone.items _ _ c.end_of.ensures.ends
    (ran _ _ _ _ _ _ _ (request_of c.args.words.now) c.key-first.result c.in-Ok.told.sight c.in-Ok.told.signer c.fit_desk-spending.result.spending c.run_on_files-ended.result c.keys_used.result
    c.args.objects.library c.run_on_files-ended.new.library c.args.objects.source c.run_on_files-ended.new.source c.args.objects.sink c.new-sink.result c.run_on_files-ended.new.sink
    c.args.objects.disk c.fit_desk-spending.new.disk c.run_on_files-ended.new.disk c.args.mirrors.items c.run_on_files-ended.new.mirrors.items c.args.gone.items c.run_on_files-ended.new.gone.items
    c.keys_used.ensures
    (begun _ c.key-first.result c.fit_desk-spending.result.spending c.fit_desk-spending.result.told c.args.objects.disk c.fit_desk-spending.new.disk c.keys_used.result c.in-Ok.told c.in-Ok.is
    c.fit_desk-spending.ensures.looked c.fit_desk-spending.ensures.unrefused c.fit_desk-spending.ensures.spent c.fit_desk-spending.ensures.quiet c.fit_desk-spending.ensures.fits c.fit_desk-spending.ensures.stable)
    (ap Some c.new-sink.ensures.nothing) c.new-sink.ensures.awaited c.new-sink.ensures.faults c.run_on_files-ended.ensures.runs (c.run_on_files-ended.ensures.gone c.requires.room))
