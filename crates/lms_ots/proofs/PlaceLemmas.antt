-- Octets written at an offset.
use Rattle.std.proofs.Common.{◌≡◌, ℕ, ◌+◌, ◌≤◌, ◌++◌, List, length, take, drop, sym, ap, ◌∙◌, arith}
use Rattle.std.proofs.lemmas.List.{take_all, take-take, drop_at, length-take-le, take-append-le}

-- octets before the offset are unchanged
pub take-written : (old new a : List ℕ) (n at k : ℕ) → n ≤ at → at ≤ length old → take (at + k) new ≡ take at old ++ a → take n new ≡ take n old
take-written old new a n at k l w e =
    let size : length (take at old) ≡ at = length-take-le at old w in
    sym (take-take n (at + k) new (omega arith)) ∙ ap (take n) e
    ∙ take-append-le n (take at old) a (omega (arith, size)) ∙ take-take n at old l

-- the octets written last are at the end
pub drop-written : (old new a : List ℕ) (at k : ℕ) → at ≤ length old → length new ≤ at + k → take (at + k) new ≡ take at old ++ a → drop at new ≡ a
drop-written old new a at k w l e =
    ap (drop at) (sym (take_all (at + k) new l) ∙ e) ∙ drop_at (take at old) a at (length-take-le at old w)
