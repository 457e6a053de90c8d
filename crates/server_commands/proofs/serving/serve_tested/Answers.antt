use Rattle.std.proofs.Common.{◌≡◌, sym, ap, subst, IfSome, [], append-nil, ◌∙◌}
use Rattle.std.specs.Option.{option_map}
use Rattle.std.specs.declared.option.Option.TheVariants.{Some}
use Rattle.std.specs.declared.result.Result.TheVariants.{Ok, Err}
use Rattle.std.proofs.lemmas.Result.{err_from_is_err_and}
use Rattle.command_files.specs.declared.told.Told.{Told}
use Rattle.command_files.specs.declared.ended.Conclusion.TheVariants.{Done, Refused}
use Rattle.command_files.specs.declared.fault.Fault.TheVariants.{TruncatedFrame}
use Rattle.server_commands.proofs.ServeCommand.{memory_serves, memory_promised, passes, line_promised, line_serves, line_is_no, no_line, done_ended}
use Rattle.server_commands.proofs.serving.serve_tested.Goals as goal

pub returns-in_err-refused-clause-promised : goal.returns-in_err-refused-clause-promised
returns-in_err-refused-clause-promised g c = λ files named fits holds before now.
    let p = err_from_is_err_and c.from_residual.result c.from_residual.ensures.1 in
    rw (p.1, p.2) (memory_promised files named before now _ _ _ _ c.in_err-refused.ensures.memory)

pub returns-in_err-refused-clause-serves : goal.returns-in_err-refused-clause-serves
returns-in_err-refused-clause-serves g c = λ files named fits holds.
    let p = err_from_is_err_and c.from_residual.result c.from_residual.ensures.1 in
    rw (p.1, p.2) (memory_serves files named _ _ _ _ _ c.in_err-refused.ensures.memory)

pub returns-in_err-refused-clause-gave : goal.returns-in_err-refused-clause-gave
returns-in_err-refused-clause-gave g c = λ files named fits holds.
    let p = err_from_is_err_and c.from_residual.result c.from_residual.ensures.1 in
    record { octets = []; gave = sym (append-nil _); is = rw (p.1, p.2) (memory_serves files named _ _ _ _ _ c.in_err-refused.ensures.memory) }

pub returns-in-Some-clause-promised : goal.returns-in-Some-clause-promised
returns-in-Some-clause-promised g c = λ files named fits holds before now.
    line_promised files named c.args.guard c.args.publication before now _ _ holds c.in-Some.told.text.items (sym c.in_ok-refused.ensures.line ∙ ap (option_map (λ (t : Told). t.text.items)) c.in-Some.is) _ _ _ _ (subst (λ r. IfSome r (λ t. t.end ≡ Ok Refused)) c.in-Some.is c.in_ok-refused.ensures.end) c.write_told.ensures.writes

pub returns-in-Some-clause-serves : goal.returns-in-Some-clause-serves
returns-in-Some-clause-serves g c = λ files named fits holds.
    line_serves files named c.args.guard c.args.publication 0 0 _ _ holds c.in-Some.told.text.items (sym c.in_ok-refused.ensures.line ∙ ap (option_map (λ (t : Told). t.text.items)) c.in-Some.is) _ _ _ _ (subst (λ r. IfSome r (λ t. t.end ≡ Ok Refused)) c.in-Some.is c.in_ok-refused.ensures.end) c.write_told.ensures.writes fits _ _ _

pub returns-in-Some-clause-gave : goal.returns-in-Some-clause-gave
returns-in-Some-clause-gave g c = λ files named fits holds.
    record {
      octets = [];
      gave = sym (append-nil _);
      is = line_serves files named c.args.guard c.args.publication 0 0 _ _ holds c.in-Some.told.text.items (sym c.in_ok-refused.ensures.line ∙ ap (option_map (λ (t : Told). t.text.items)) c.in-Some.is) _ _ _ _ (subst (λ r. IfSome r (λ t. t.end ≡ Ok Refused)) c.in-Some.is c.in_ok-refused.ensures.end) c.write_told.ensures.writes fits (Some []) _ _;
    }

pub returns-in-Some-clause-ended : goal.returns-in-Some-clause-ended
returns-in-Some-clause-ended g c is = absurd (line_is_no c.in-Some.told.text.items _ _ _ _ _ _ (subst (λ r. IfSome r (λ t. t.end ≡ Ok Refused)) c.in-Some.is c.in_ok-refused.ensures.end) c.write_told.ensures.writes (Ok Done) (λ x. cc) (λ x. cc) is)

pub returns-in-Some-clause-cut : goal.returns-in-Some-clause-cut
returns-in-Some-clause-cut g c is = absurd (line_is_no c.in-Some.told.text.items _ _ _ _ _ _ (subst (λ r. IfSome r (λ t. t.end ≡ Ok Refused)) c.in-Some.is c.in_ok-refused.ensures.end) c.write_told.ensures.writes (Err TruncatedFrame) (λ x. cc) (λ x. cc) is)

pub returns-in-Some-clause-done : goal.returns-in-Some-clause-done
returns-in-Some-clause-done g c passed = absurd (no_line _ _ passed (sym c.in_ok-refused.ensures.line ∙ ap (option_map (λ (t : Told). t.text.items)) c.in-Some.is))

pub serve_over-requires-clause-passed : goal.serve_over-requires-clause-passed
serve_over-requires-clause-passed g c = passes _ (sym c.in_ok-refused.ensures.line ∙ ap (option_map (λ (t : Told). t.text.items)) c.in-None.is)

pub returns-in-None-clause-ended : goal.returns-in-None-clause-ended
returns-in-None-clause-ended g c = done_ended _ _ c.serve_over.ensures.ended
