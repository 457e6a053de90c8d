use Rattle.std.proofs.Common.{◌≡◌, ◌+◌}
use Rattle.outside.specs.Called.{count_of}
use Rattle.guarded_run.proofs.guarding.synced.Given as goal

abbrev pub invariant-loop-place : goal.invariant-loop-place
invariant-loop-place g l = record {
  each : count_of 3 l.names.calls.events ≡ count_of 3 l.fn.names.calls.events + l.place;
  answers : l.names.answers.events ≡ l.fn.names.answers.events;
}
