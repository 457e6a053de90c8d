use Rattle.std.proofs.Common.{◌≡◌, ℕ, List, ◌-◌, ◌≤◌, get_or, below_more, arith, ap, ◌∙◌, sym}
use Rattle.sha2.specs.Sha256.{sha256}
use Rattle.lms_ots.specs.Chains.{chain_of, secret_of}
use Rattle.lms_reduce.specs.Meetings.{MeetInChain}
use Rattle.lms_reduce.specs.Ways.{walked}
use Rattle.lms_reduce.proofs.MeetingLemmas.{kept-meet, chain-meet}
use Rattle.lms_reduce.proofs.TextLemmas.{own-end, shown-end}
use Rattle.lms_reduce.proofs.WayLemmas.{walked-chain_of}
use Rattle.lms_reduce.proofs.comparing.compare_chains.Goals as goal

pub returns-in-Some-clause-meet : goal.returns-in-Some-clause-meet
returns-in-Some-clause-meet c =
    let i = c.args.i.now in
    let q = c.args.q in
    let seed = c.args.seed.now in
    let digits = c.args.digits.now in
    let ots = c.args.ots.now in
    let at = c.loop-at.at in
    let digit = get_or digits at 0 in
    let none : digit - 0 ≡ digit = omega arith in
    let own : c.chain-own.result ≡ chain_of i q at 0 digit (secret_of i q seed at) = c.chain-own.ensures ∙ ap (λ n. chain_of i q at 0 n c.secret.result) none ∙ ap (chain_of i q at 0 digit) c.secret.ensures in
    kept-meet (λ (left right : List ℕ). MeetInChain i q seed digits ots left right) c.keep.result c.in-Some.two.left c.in-Some.two.right c.keep.ensures.kept
    (chain-meet i q seed digits ots at c.chain-own.result c.array_at-shown.result own c.array_at-shown.ensures c.in-Some.two.left c.in-Some.two.right c.loop-at-test.true c.in-Some.ensures.first)

pub loop-at-preserved : goal.loop-at-preserved
loop-at-preserved c =
    let i = c.args.i.now in
    let q = c.args.q in
    let seed = c.args.seed.now in
    let digits = c.args.digits.now in
    let ots = c.args.ots.now in
    let at = c.loop-at.at in
    let digit = get_or digits at 0 in
    let small : digit ≤ 255 = omega arith in
    let none : digit - 0 ≡ digit = omega arith in
    let own : c.chain-own.result ≡ chain_of i q at 0 digit (secret_of i q seed at) = c.chain-own.ensures ∙ ap (λ n. chain_of i q at 0 n c.secret.result) none ∙ ap (chain_of i q at 0 digit) c.secret.ensures in
    let ends : walked sha256 i q at digit (255 - digit) c.chain-own.result ≡ walked sha256 i q at digit (255 - digit) c.array_at-shown.result =
    walked-chain_of i q at digit (255 - digit) c.chain-own.result ∙ ap (chain_of i q at digit (255 - digit)) own ∙ own-end i q seed at digit small
    ∙ sym (c.requires.ends.ends at c.loop-at-test.true) ∙ sym (shown-end i q digits ots at)
    ∙ ap (chain_of i q at digit (255 - digit)) (sym c.array_at-shown.ensures) ∙ sym (walked-chain_of i q at digit (255 - digit) c.array_at-shown.result) in
    below_more _ _ c.loop-at.invariant (sym c.array_at-shown.ensures ∙ sym (c.in_default.ensures.none ends) ∙ own)
