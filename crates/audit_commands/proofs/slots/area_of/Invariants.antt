use Rattle.std.proofs.Common.{◌≢◌, ◌<◌, ℕ}
use Rattle.lms_tree.specs.Signatures.{public_key}
use Rattle.key_desk.specs.Desk.{key_of}
use Rattle.audit_commands.proofs.slots.area_of.Given as goal

abbrev pub invariant-loop-area : goal.invariant-loop-area
invariant-loop-area l = (a : ℕ) → a < l.area → public_key (key_of l.desk a) ≢ l.public
