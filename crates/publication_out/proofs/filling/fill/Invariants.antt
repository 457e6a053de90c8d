use Rattle.std.proofs.Common.{◌≡◌, ◌≤◌, ◌-◌, ◌++◌, length, take, drop}
use Rattle.publication_out.specs.Left.{left_in}
use Rattle.publication_out.proofs.filling.fill.Given as goal

abbrev pub invariant-loop-done : goal.invariant-loop-done
invariant-loop-done l = record {
  within : l.done ≤ length l.into;
  given : l.into ≡ take l.done (left_in l.fn.rest) ++ drop l.done l.fn.into;
  left : left_in l.rest ≡ drop l.done (left_in l.fn.rest);
  there : l.done ≤ length (left_in l.fn.rest);
  same : l.rest.publication.now ≡ l.fn.rest.publication.now;
}

abbrev pub decreases-loop-done : goal.decreases-loop-done
decreases-loop-done l = length l.into - l.done
