use Rattle.std.proofs.Common.{◌≡◌, ◌-◌, ◌∙◌, ap, sym, List, ℕ, arith}
use Rattle.lms_ots.specs.Chains.{step_of, chain_of}
use Rattle.lms_ots.proofs.OtsLemmas.{chain_of-more, chain_of-none, sha256-step_of, value-whole}
use Rattle.lms_ots.proofs.keys.chain.Goals as goal

pub loop-number-init : goal.loop-number-init
loop-number-init c = record {
  prefix_is = c.step_text-text.ensures.prefix;
  value_is = c.step_text-text.ensures.value ∙ sym (chain_of-none c.args.i.now c.args.q c.args.at c.args.from c.args.x.now);
}

pub loop-number-preserved : goal.loop-number-preserved
loop-number-preserved c =
    let at = c.loop-number.invariant in
    record {
      prefix_is = c.step.ensures.prefix ∙ at.prefix_is;
      value_is = c.step.ensures.value
          ∙ sha256-step_of c.args.i.now c.args.q c.args.at c.loop-number.number c.loop-number.text at.prefix_is
          ∙ ap (λ (x : List ℕ). step_of c.args.i.now c.args.q c.args.at c.loop-number.number x) at.value_is
          ∙ chain_of-more c.args.i.now c.args.q c.args.at c.args.from c.loop-number.number c.args.x.now c.loop-number.auto.number;
    }

pub returns : goal.returns
returns c =
    let all : c.loop-number.number ≡ c.args.to = omega (arith, c.requires.order) in
    c.array_at.ensures ∙ value-whole c.loop-number.text c.loop-number-test.array_long ∙ c.loop-number.invariant.value_is
    ∙ ap (λ n. chain_of c.args.i.now c.args.q c.args.at c.args.from (n - c.args.from) c.args.x.now) all
