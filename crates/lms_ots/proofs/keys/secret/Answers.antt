use Rattle.std.proofs.Common.{◌∙◌}
use Rattle.lms_ots.proofs.OtsLemmas.{sha256-secret_of, value-whole}
use Rattle.lms_ots.proofs.keys.secret.Goals as goal

pub returns : goal.returns
returns c =
    c.array_at.ensures ∙ value-whole c.step.new.text c.step.array_long ∙ c.step.ensures.value
    ∙ sha256-secret_of c.args.i.now c.args.q c.args.seed.now c.args.at c.step_text-text.result c.step_text-text.ensures.prefix c.step_text-text.ensures.value
