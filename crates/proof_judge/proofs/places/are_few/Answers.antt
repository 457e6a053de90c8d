use Rattle.std.proofs.Common.{◌≡◌, ℕ, zero, suc, ◌^◌, ◌<◌, ◌==◌, Bool, false, length, arith}
use Rattle.proof_judge.proofs.KeyPlaces.{few_keys}
use Rattle.proof_judge.proofs.places.are_few.Goals as goal

is_some : (n : ℕ) (none : Bool) → none ≡ (n == 0) → none ≡ false → 0 < n
is_some (suc n) none e f = omega arith
is_some zero none e f = cc

pub returns : goal.returns
returns c =
    let some : 0 < length c.args.ids.now = is_some (length c.args.ids.now) c.is_empty.result c.is_empty.ensures c.if-is_empty.false in
    few_keys (λ id. id) c.args.ids.now 0 (2 ^ 32) c.requires some c.id_fits.ensures
