use Rattle.std.proofs.Common.{◌≡◌, ℕ, ◌+◌, ◌-◌, ap, ◌∙◌, sym, List, take, drop, arith, ◌*◌}
use Rattle.lms_ots.specs.Chains.{chain_of, secret_of, shown_value}
use Rattle.lms_ots.proofs.OtsLemmas.{chain_of-chain_of, signature-value}
use Rattle.lms_tree.proofs.SealLemmas.{sealed-ots}
use Rattle.lms_tree.specs.Signatures.{sealed}
use Rattle.lms_reduce.proofs.ReduceLemmas.{value-at}
use Rattle.lms_reduce.proofs.laws.released_laws.Goals as goal

pub returns-clause-shows : goal.returns-clause-shows
unfolding shown_value
returns-clause-shows c key slot at text l =
    sym (value-at at (sealed key slot text) l) ∙ ap (λ (o : List ℕ). take 32 (drop (36 + 32 * at) o)) (sealed-ots key slot text) ∙ signature-value key.i slot key.seed text at l

pub returns-clause-later : goal.returns-clause-later
returns-clause-later c key slot at step more l =
    let e : step ≡ 0 + step = omega arith in
    let all : step + (more - step) ≡ more = omega arith in
    ap (λ n. chain_of key.i slot at n (more - step) (chain_of key.i slot at 0 step (secret_of key.i slot key.seed at))) e
    ∙ chain_of-chain_of key.i slot at 0 step (more - step) (secret_of key.i slot key.seed at)
    ∙ ap (λ n. chain_of key.i slot at 0 n (secret_of key.i slot key.seed at)) all
