use Rattle.std.proofs.Common.{◌≡◌, ℕ, ◌≤◌, List, Some, IfSome, length, slice_get, arith, ap, ◌∙◌, subst}
use Rattle.std.proofs.lemmas.Result.{IfOk-weaker}
use Rattle.std.proofs.lemmas.Option.{IfSome_then}
use Rattle.pair_dist.specs.Chains.{Keeps}
use Rattle.pair_dist.proofs.FinerLaws.{own_within, keeps_over}
use Rattle.pair_dist.proofs.table.chain_by_steps.Goals as goal

pub chain_over-requires-in-None-clause-within : goal.chain_over-requires-in-None-clause-within
chain_over-requires-in-None-clause-within c = λ i p at. c.requires.within i p (c.requires.front i p at)

pub chain_over-requires-in-Some-clause-within : goal.chain_over-requires-in-Some-clause-within
chain_over-requires-in-Some-clause-within c =
    rw c.as_slice.ensures.value (own_within c.args.places.now c.args.finer.now c.in_ok-own-in-Some.own.items c.requires.front c.in_ok-own-in-Some.ensures.long c.in_ok-own-in-Some.ensures.each)

pub chain_over-requires-in-Some-clause-few : goal.chain_over-requires-in-Some-clause-few
chain_over-requires-in-Some-clause-few c =
    let long : length c.as_slice.result.now ≡ length c.args.places.now = ap length c.as_slice.ensures.value ∙ c.in_ok-own-in-Some.ensures.long in
    let few : length c.args.places.now ≤ 2048 = c.requires.pairs in
    omega (arith, long, few)

pub returns-in_ok-own-in-Some : goal.returns-in_ok-own-in-Some
returns-in_ok-own-in-Some c =
    let net = c.args.net.now in
    let own = c.as_slice.result.now in
    let finer : Keeps net c.args.finer.now c.in-Some.fine = subst (λ o. IfSome o (Keeps net c.args.finer.now)) c.in-Some.is c.in_ok-chain_over.ensures in
    let long : length own ≡ length c.args.places.now = ap length c.as_slice.ensures.value ∙ c.in_ok-own-in-Some.ensures.long in
    let each : (i n : ℕ) → slice_get own i ≡ Some n → n ≡ i = λ i n at. c.in_ok-own-in-Some.ensures.each i n (subst (λ (xs : List ℕ). slice_get xs i ≡ Some n) c.as_slice.ensures.value at) in
    IfOk-weaker c.chain_over-in-Some.result (λ found. IfSome found (Keeps c.in-Some.fine own)) (λ found. IfSome found (Keeps net c.args.places.now))
    (λ found h. IfSome_then found h (λ chain over. keeps_over net c.in-Some.fine chain c.args.places.now c.args.finer.now own c.requires.front long each finer over)) c.chain_over-in-Some.ensures
