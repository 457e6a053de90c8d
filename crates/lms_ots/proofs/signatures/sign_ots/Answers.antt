use Rattle.std.proofs.Common.{◌≡◌, ◌+◌, ◌-◌, ◌*◌, ◌++◌, ◌∙◌, ap, sym, List, ℕ, arith, take, get_or}
use Rattle.std.specs.List.{range_with_len, flat_map}
use Rattle.std.specs.Int.{w32, to_be_bytes}
use Rattle.std.proofs.lemmas.List.{take_all}
use Rattle.lms_ots.specs.Chains.{signature_of, shown_value, chain_of, randomiser_of, digits_of}
use Rattle.lms_ots.proofs.OtsLemmas.{pieces-more, candidate_of-signature_of}
use Rattle.lms_ots.proofs.signatures.sign_ots.Goals as goal

pub loop-at-preserved : goal.loop-at-preserved
unfolding shown_value
loop-at-preserved c =
    let i = c.args.i.now in
    let q = c.args.q in
    let at = c.loop-at.at in
    let digit = get_or c.digits-digits.result at 0 in
    let g = shown_value i q c.args.seed.now c.digits-digits.result in
    let head = to_be_bytes w32 4 ++ randomiser_of i q c.args.seed.now in
    let zero : digit - 0 ≡ digit = omega arith in
    let value : c.chain-value.result ≡ g at = c.chain-value.ensures ∙ ap (λ n. chain_of i q at 0 n c.secret.result) zero ∙ ap (λ (x : List ℕ). chain_of i q at 0 digit x) c.secret.ensures in
    let place : 36 + 32 * (at + 1) ≡ 36 + 32 * at + 32 = omega arith in
    ap (λ n. take n c.write_array-in-loop-at.new.out) place ∙ c.write_array-in-loop-at.ensures.written ∙ ap (λ (l : List ℕ). l ++ c.chain-value.result) c.loop-at.invariant
    ∙ ap (λ (l : List ℕ). (head ++ flat_map g (range_with_len 0 at)) ++ l) value ∙ pieces-more g head at

pub returns-clause-signature : goal.returns-clause-signature
unfolding signature_of
returns-clause-signature c =
    let i = c.args.i.now in
    let q = c.args.q in
    let seed = c.args.seed.now in
    let all : c.loop-at.at ≡ 34 = omega arith in
    let whole : take (36 + 32 * c.loop-at.at) c.loop-at.out ≡ c.loop-at.out = take_all _ c.loop-at.out (omega (arith, all)) in
    let digits : c.digits-digits.result ≡ digits_of i q (randomiser_of i q seed) c.args.text.now = c.digits-digits.ensures ∙ ap (λ (x : List ℕ). digits_of i q x c.args.text.now) c.randomiser-c.ensures in
    sym whole ∙ c.loop-at.invariant ∙ ap (λ n. to_be_bytes w32 4 ++ randomiser_of i q seed ++ flat_map (shown_value i q seed c.digits-digits.result) (range_with_len 0 n)) all
    ∙ ap (λ (ds : List ℕ). to_be_bytes w32 4 ++ randomiser_of i q seed ++ flat_map (shown_value i q seed ds) (range_with_len 0 34)) digits

pub returns-clause-verified : goal.returns-clause-verified
returns-clause-verified c =
    rw (returns-clause-signature c) (candidate_of-signature_of c.args.i.now c.args.q c.args.seed.now c.args.text.now)
