use Rattle.std.proofs.Common.{◌≡◌, Ok, subst, sym, ap, ◌∙◌}
use Rattle.octet_text.specs.Format.{whole}
use Rattle.proof_octets.specs.declared.reply.Reply.{Reply}
use Rattle.proof_octets.specs.Replies.{reply, reply_text}
use Rattle.proof_octets.proofs.Good.{reply_is, is_routed, is_apart}
use Rattle.route_client.specs.Verdicts.{answered}
use Rattle.route_client.proofs.NotAnswers.{answer_begun}
use Rattle.route_client.proofs.earlier_tests.read_answer.Goals as goal

pub returns-in-Ok-Answer-clause-good : goal.returns-in-Ok-Answer-clause-good
returns-in-Ok-Answer-clause-good c =
    let fits = subst (λ r. reply.Fits r) c.in-Ok-Answer.field-0-is c.in-Ok-Answer.ensures.found.0 in
    (reply_is c.in-Ok-Answer.answer).0 (subst (λ r. reply.Fits r) (sym (is_routed c.in-Ok-Answer.answer fits)) fits)

pub returns-in-Ok-Answer-clause-is : goal.returns-in-Ok-Answer-clause-is
returns-in-Ok-Answer-clause-is c =
    let fits = subst (λ r. reply.Fits r) c.in-Ok-Answer.field-0-is c.in-Ok-Answer.ensures.found.0 in
    let read = subst (λ (r : Reply). whole reply c.args.octets.now ≡ Ok r) c.in-Ok-Answer.field-0-is c.in-Ok-Answer.ensures.exact in
    ap answered read ∙ ap (λ (r : Reply). Ok r) (sym (is_routed c.in-Ok-Answer.answer fits))

pub returns-in-Ok-Answer-clause-spelled : goal.returns-in-Ok-Answer-clause-spelled
returns-in-Ok-Answer-clause-spelled c =
    let fits = subst (λ r. reply.Fits r) c.in-Ok-Answer.field-0-is c.in-Ok-Answer.ensures.found.0 in
    c.in-Ok-Answer.ensures.found.1 ∙ ap reply_text (c.in-Ok-Answer.field-0-is ∙ sym (is_routed c.in-Ok-Answer.answer fits))

pub returns-in-Ok-Apart-clause-good : goal.returns-in-Ok-Apart-clause-good
returns-in-Ok-Apart-clause-good c =
    let fits = subst (λ r. reply.Fits r) c.in-Ok-Apart.field-0-is c.in-Ok-Apart.ensures.found.0 in
    (reply_is c.in-Ok-Apart.answer).0 (subst (λ r. reply.Fits r) (sym (is_apart c.in-Ok-Apart.answer fits)) fits)

pub returns-in-Ok-Apart-clause-is : goal.returns-in-Ok-Apart-clause-is
returns-in-Ok-Apart-clause-is c =
    let fits = subst (λ r. reply.Fits r) c.in-Ok-Apart.field-0-is c.in-Ok-Apart.ensures.found.0 in
    let read = subst (λ (r : Reply). whole reply c.args.octets.now ≡ Ok r) c.in-Ok-Apart.field-0-is c.in-Ok-Apart.ensures.exact in
    ap answered read ∙ ap (λ (r : Reply). Ok r) (sym (is_apart c.in-Ok-Apart.answer fits))

pub returns-in-Ok-Apart-clause-spelled : goal.returns-in-Ok-Apart-clause-spelled
returns-in-Ok-Apart-clause-spelled c =
    let fits = subst (λ r. reply.Fits r) c.in-Ok-Apart.field-0-is c.in-Ok-Apart.ensures.found.0 in
    c.in-Ok-Apart.ensures.found.1 ∙ ap reply_text (c.in-Ok-Apart.field-0-is ∙ sym (is_apart c.in-Ok-Apart.answer fits))

pub returns-in-Err-Memory-clause-memory : goal.returns-in-Err-Memory-clause-memory
returns-in-Err-Memory-clause-memory c is kind =
    answer_begun c.args.octets.now kind (λ r none read. let e = c.in-Err-Memory.ensures.bare r none read in cc)
