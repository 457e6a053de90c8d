use Rattle.std.proofs.Common.{◌≡◌}
use Rattle.std.proofs.lemmas.Result.{err_from_is_err_and}
use Rattle.octet_text.specs.declared.errors.ReadError.TheVariants.{Memory}
use Rattle.proof_octets.proofs.Bare.{short_of_bare}
use Rattle.proof_octets.proofs.reply.read_whole.Goals as goal
use Rattle.octet_text.specs.Want.{no_memory}

pub returns-in_err-reply-clause-memory : goal.returns-in_err-reply-clause-memory
returns-in_err-reply-clause-memory c =
    let p = err_from_is_err_and c.from_residual.result c.from_residual.ensures.1 in
    rw (p.1, p.2) (λ short. short_of_bare c.new-cursor.result c.args.octets.now (c.in_err-reply.field-0.0 ≡ Memory no_memory) c.new-cursor.ensures.at c.new-cursor.ensures.text
    (λ same. c.in_err-reply.ensures.memory (cc (same))) (cc (short)))
