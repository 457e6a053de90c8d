use Rattle.std.proofs.Common.{◌≡◌, ◌+◌, ◌-◌, ◌*◌, ◌++◌, ◌∙◌, ap, sym, List, ℕ, arith, take, get_or}
use Rattle.std.specs.List.{range_with_len, flat_map}
use Rattle.std.proofs.lemmas.List.{take_all}
use Rattle.lms_ots.specs.Chains.{prefix, ended_value, chain_of}
use Rattle.lms_ots.proofs.OtsLemmas.{pieces-more}
use Rattle.lms_reduce.specs.Texts.{values_text}
use Rattle.lms_reduce.proofs.texts.shown_ends.Goals as goal

pub loop-at-preserved : goal.loop-at-preserved
unfolding ended_value
loop-at-preserved c =
    let i = c.args.i.now in
    let q = c.args.q in
    let at = c.loop-at.at in
    let digit = get_or c.args.digits.now at 0 in
    let g = ended_value i q c.args.digits.now c.args.ots.now in
    let value : c.chain-value.result ≡ g at = c.chain-value.ensures ∙ ap (λ (x : List ℕ). chain_of i q at digit (255 - digit) x) c.array_at-shown.ensures in
    let place : 22 + 32 * (at + 1) ≡ 22 + 32 * at + 32 = omega arith in
    record {
      size = omega arith;
      written = ap (λ n. take n c.write_array-in-loop-at.new.out) place ∙ c.write_array-in-loop-at.ensures.written ∙ ap (λ (l : List ℕ). l ++ c.chain-value.result) c.loop-at.invariant.written
          ∙ ap (λ (l : List ℕ). (prefix i q 0x8080 ++ flat_map g (range_with_len 0 at)) ++ l) value ∙ pieces-more g (prefix i q 0x8080) at;
    }

pub returns : goal.returns
unfolding values_text
returns c =
    let g = ended_value c.args.i.now c.args.q c.args.digits.now c.args.ots.now in
    let all : c.loop-at.at ≡ 34 = omega arith in
    sym (take_all (22 + 32 * c.loop-at.at) c.loop-at.text (omega (arith, all))) ∙ c.loop-at.invariant.written
    ∙ ap (λ n. prefix c.args.i.now c.args.q 0x8080 ++ flat_map g (range_with_len 0 n)) all
