use Rattle.std.proofs.Common.{◌-◌}
use Rattle.octet_text.specs.Format.{rows_at}
use Rattle.proof_octets.proofs.OutlineLaws.{SomeBegun}
use Rattle.proof_octets.proofs.skim.skim_rows.Given as goal

-- some values so far
abbrev pub invariant-loop : goal.invariant-loop
invariant-loop g l = SomeBegun (g.R.Row.format l.reader) g.R.Row.follows (l.count - l.counter) l.least l.cursor (rows_at (g.R.Row.format l.reader) g.R.Row.follows l.count 0 l.fn.cursor)
