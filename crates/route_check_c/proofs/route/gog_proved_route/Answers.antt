use Rattle.std.proofs.Common.{◌≡◌, Ok, inl, inr, refl, rules}
use Rattle.sha2.specs.Sha256.{sha256}
use Rattle.octet_text.specs.Format.{whole}
use Rattle.lms_tree.specs.ChainFiles.{chain_file}
use Rattle.route_client.specs.Verdicts.{IsVerdict}
use Rattle.route_check_c.specs.Codes.{route_reason}
use Rattle.road_line.specs.VerdictLine.{refused_line}
use Rattle.route_client.specs.declared.errors.CheckError.TheVariants.{Memory}
use Rattle.route_check_c.proofs.LeafLemmas.{accepted_so, checked_apart, checked_leaves}
use Rattle.route_check_c.proofs.Refusals.{refusal_told, route_refused}
use Rattle.route_check_c.proofs.route.gog_proved_route.Goals as goal
use Rattle.route_check_c.proofs.route.gog_proved_route.Goals.{in-Ok-check_answer, in-Err-check_answer}
use Rattle.octet_text.specs.Want.{no_memory}

pub returns-in-Err-clause-told : goal.returns-in-Err-clause-told
returns-in-Err-clause-told c = inr (inr (record {
  why = c.in-Err.why;
  cause = c.in-Err.ensures.unread;
  numbers = c.refused.ensures;
  room = refl;
  line = refl;
}))

pub tell-requires-clause-leaves : goal.tell-requires-clause-leaves
tell-requires-clause-leaves c =
    checked_leaves sha256 c.args.public.now c.as_slice.result.now c.args.reply.now (record { from = c.args.from; to = c.args.to }) c.args.least
    c.in-Ok-check_answer.checked c.in-Ok-check_answer.ensures.spelled c.in-Ok-check_answer.ensures.verdict

pub tell-requires-clause-apart : goal.tell-requires-clause-apart
tell-requires-clause-apart c =
    checked_apart sha256 c.args.public.now c.as_slice.result.now c.args.reply.now (record { from = c.args.from; to = c.args.to }) c.args.least
    c.in-Ok-check_answer.checked c.in-Ok-check_answer.ensures.spelled c.in-Ok-check_answer.ensures.verdict

pub returns-clause-told : goal.returns-clause-told
returns-clause-told c =
    elim c.match-check_answer.branch [
      | in-Ok-check_answer w ↦
          let spelled : whole chain_file c.args.chain.now ≡ Ok c.as_slice.result.now = search rules in
          rw (w.nodes-is, w.line-is, w.verdict-is) (inl (record {
            links = c.as_slice.result.now;
            spelled = spelled;
            checked = w.in-Ok-check_answer.checked;
            brought = w.in-Ok-check_answer.ensures.spelled;
            verdict = accepted_so (IsVerdict sha256 c.args.public.now c.as_slice.result.now c.args.reply.now (record { from = c.args.from; to = c.args.to }) c.args.least) w.in-Ok-check_answer.checked w.in-Ok-check_answer.ensures.verdict;
            told = w.tell.ensures;
            line = refl;
          }))
      | in-Err-check_answer w ↦
          let spelled : whole chain_file c.args.chain.now ≡ Ok c.as_slice.result.now = search rules in
          let error = w.in-Err-check_answer.error in
          rw (w.nodes-is, w.line-is, w.verdict-is) (inr (refusal_told
          (λ links. IsVerdict sha256 c.args.public.now links c.args.reply.now (record { from = c.args.from; to = c.args.to }) c.args.least) (Memory no_memory) route_reason refused_line
          c.args.chain.now c.args.reply.now c.as_slice.result.now error c.args.nodes.now w.line_of.result c.args.line.now w.tell_refused.new.line w.tell_refused.result
          spelled (λ not. route_refused (IsVerdict sha256 c.args.public.now c.as_slice.result.now c.args.reply.now (record { from = c.args.from; to = c.args.to }) c.args.least) error not w.in-Err-check_answer.ensures.verdict) w.line_of.ensures
          (rw (← w.reason_of_route.ensures) w.tell_refused.ensures.reasoned) w.tell_refused.ensures.short))
    ]
