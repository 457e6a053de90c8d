use Rattle.std.proofs.Common.{ℕ, List, ap, arith, subst, sym, ◌∙◌}
use Rattle.octet_text.specs.Exact.{IsBytes}
use Rattle.sha2.specs.Sha256.{sha256}
use Rattle.lms_reduce.proofs.comparing.keep.Goals as goal

pub returns-clause-collide : goal.returns-clause-collide
returns-clause-collide c = record {
  left_octets = subst (λ (x : List ℕ). IsBytes x) (sym c.in_ok-own.ensures) (λ i. omega (arith, c.type_inv.left i));
  right_octets = subst (λ (x : List ℕ). IsBytes x) (sym c.in_ok-shown.ensures) (λ i. omega (arith, c.type_inv.right i));
  differ = λ e. c.requires.differ (sym c.in_ok-own.ensures ∙ e ∙ c.in_ok-shown.ensures);
  one_digest = ap sha256 c.in_ok-own.ensures ∙ c.requires.one_digest ∙ sym (ap sha256 c.in_ok-shown.ensures);
}
