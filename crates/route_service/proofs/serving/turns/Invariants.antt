use Rattle.std.proofs.Common.{◌≡◌, ◌≤◌, ◌-◌, []}
use Rattle.std.specs.declared.option.Option.TheVariants.{Some}
use Rattle.road_io.specs.Given.{Gave}
use Rattle.sha2.specs.Sha256.{sha256}
use Rattle.route_service.specs.Sessions.{state_of}
use Rattle.route_service.specs.Serving.{Served}
use Rattle.route_service.proofs.serving.turns.Given as goal

abbrev pub invariant-loop-served : goal.invariant-loop-served
invariant-loop-served g l = let hasher = g.H.Hasher in let source = g.S.Source in let sink = g.K.Sink in record {
  within : l.served ≤ l.limit;
  served : Served hasher.hash sha256 (state_of l.fn.service) (state_of l.service) l.most l.served
      (source.left l.fn.source) (source.left l.source) (sink.taken l.fn.sink) (sink.taken l.sink);
  gave : Gave (source.given l.fn.source) (source.given l.source)
      (λ octets. Served hasher.hash sha256 (state_of l.fn.service) (state_of l.service) l.most l.served
      (Some octets) (Some []) (sink.taken l.fn.sink) (sink.taken l.sink));
  source_kept : source.faults l.source ≡ source.faults l.fn.source;
  sink_kept : sink.faults l.sink ≡ sink.faults l.fn.sink;
}

abbrev pub decreases-loop-served : goal.decreases-loop-served
decreases-loop-served g l = l.limit - l.served
