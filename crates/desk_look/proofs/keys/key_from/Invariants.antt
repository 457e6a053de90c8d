use Rattle.std.proofs.Common.{◌≢◌, ◌<◌, ◌≤◌, ℕ}
use Rattle.lms_tree.specs.Signatures.{public_key}
use Rattle.key_desk.specs.Desk.{key_of}
use Rattle.desk_look.proofs.keys.key_from.Given as goal

-- no area so far has the key
abbrev pub invariant-loop-area : goal.invariant-loop-area
invariant-loop-area l = (a : ℕ) → l.first ≤ a → a < l.area → l.public ≢ public_key (key_of l.desk a)
