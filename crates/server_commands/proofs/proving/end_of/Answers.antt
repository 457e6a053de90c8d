use Rattle.std.proofs.Common.{◌≡◌, ◌≢◌, Some, slice_get, arith}
use Rattle.server_commands.proofs.ProveLemmas.{answer_ends, unknown_ends}
use Rattle.server_commands.proofs.proving.end_of.Goals as goal

pub returns-in-Some-eq1 : goal.returns-in-Some-eq1
returns-in-Some-eq1 c =
    let first : slice_get c.args.octets.now 0 ≡ Some 1 = first_of (cc, grind arith) in
    unknown_ends _ c.args.query c.args.octets.now c.requires c.first_unknown.result first c.first_unknown.ensures.known c.first_unknown.ensures.unknown

pub returns-in_default : goal.returns-in_default
returns-in_default c =
    let one : slice_get c.args.octets.now 0 ≢ Some 1 = λ h. first_of (cc, grind arith) in
    answer_ends _ c.args.query c.args.octets.now c.requires one

pub returns-in_default-2 : goal.returns-in_default-2
returns-in_default-2 c =
    let one : slice_get c.args.octets.now 0 ≢ Some 1 = λ h. first_of (cc, grind arith) in
    answer_ends _ c.args.query c.args.octets.now c.requires one
