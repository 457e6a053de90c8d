use Rattle.std.proofs.Common.{◌≡◌}
use Rattle.key_desk.specs.Desk.{Fits}
use Rattle.seal_tests.proofs.desk.sign_often.Given as goal

abbrev pub invariant-loop : goal.invariant-loop
invariant-loop g l = record {
  fits : Fits g.D.Disk l.desk l.disk;
  same : l.desk.key ≡ l.fn.desk.key;
}
