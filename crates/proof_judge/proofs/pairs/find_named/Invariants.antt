use Rattle.std.proofs.Common.{◌≡◌, ◌==◌, ◌&&◌, drop, find}
use Rattle.proof_judge.proofs.pairs.find_named.Given as goal

abbrev pub invariant-loop-pair : goal.invariant-loop-pair
invariant-loop-pair l = find (λ p. (p.a == l.first) && (p.b == l.second)) l.pairs ≡ find (λ p. (p.a == l.first) && (p.b == l.second)) (drop l.pair-index l.pairs)
