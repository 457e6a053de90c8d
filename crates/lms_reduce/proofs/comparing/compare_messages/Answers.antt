use Rattle.std.proofs.Common.{ℕ, List, ◌∙◌, ap, subst, sym, arith}
use Rattle.octet_text.specs.Exact.{IsBytes}
use Rattle.sha2.specs.Sha256.{sha256}
use Rattle.lms_reduce.proofs.TextLemmas.{message_text-same, sha256-message_text}
use Rattle.lms_reduce.proofs.comparing.compare_messages.Goals as goal

pub returns-clause-collide : goal.returns-clause-collide
returns-clause-collide c =
    let i = c.args.i.now in
    let q = c.args.q in
    record {
      left_octets = subst (λ (x : List ℕ). IsBytes x) c.as_slice.ensures c.octet_law.ensures;
      right_octets = subst (λ (x : List ℕ). IsBytes x) c.as_slice-2.ensures c.octet_law-2.ensures;
      differ = λ e. c.requires.differ (message_text-same i q c.args.own_c.now c.args.c.now c.args.own.now c.args.text.now (omega arith) (sym c.in_ok-left.ensures ∙ e ∙ c.in_ok-right.ensures));
      one_digest = ap sha256 c.in_ok-left.ensures ∙ sha256-message_text i q c.args.own_c.now c.args.own.now ∙ c.requires.one_hash
          ∙ sym (sha256-message_text i q c.args.c.now c.args.text.now) ∙ ap sha256 (sym c.in_ok-right.ensures);
    }
