use Rattle.audit_commands.proofs.ReduceLemmas.{told_reduced, told_signed, told_refused}
use Rattle.audit_commands.proofs.reducing.tell.Goals as goal

pub returns-in_ok-line_of_reduced-in-Ok-clause-told : goal.returns-in_ok-line_of_reduced-in-Ok-clause-told
returns-in_ok-line_of_reduced-in-Ok-clause-told c = told_reduced c.args.key.now _ c.args.text.now c.args.sig.now _ c.in-Ok.reduced c.in-Ok.ensures.not_verified c.in-Ok.ensures.signed c.in-Ok.ensures.reduced c.in_ok-line_of_reduced-in-Ok.ensures

pub returns-in_ok-line_of_signed-in-Err-Signed-clause-told : goal.returns-in_ok-line_of_signed-in-Err-Signed-clause-told
returns-in_ok-line_of_signed-in-Err-Signed-clause-told c =
    told_signed c.args.key.now _ c.args.text.now c.args.sig.now _ c.in-Err-Signed.slot (rw c.in-Err-Signed.field-0-is at c.in-Err-Signed.ensures.signed) c.in_ok-line_of_signed-in-Err-Signed.ensures

pub returns-in_ok-line_of_refused-in-Err-NotVerified-clause-told : goal.returns-in_ok-line_of_refused-in-Err-NotVerified-clause-told
returns-in_ok-line_of_refused-in-Err-NotVerified-clause-told c =
    told_refused c.args.key.now _ c.args.text.now c.args.sig.now _ c.in-Err-NotVerified.why (rw c.in-Err-NotVerified.field-0-is at c.in-Err-NotVerified.ensures.not_verified) c.in_ok-line_of_refused-in-Err-NotVerified.ensures
