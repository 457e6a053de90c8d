use Rattle.std.proofs.Common.{◌≡◌, Ok, inl, inr, refl, rules}
use Rattle.sha2.specs.Sha256.{sha256}
use Rattle.octet_text.specs.Format.{whole}
use Rattle.lms_tree.specs.ChainFiles.{chain_file}
use Rattle.route_client.specs.NearVerdicts.{IsNearVerdict}
use Rattle.route_check_c.specs.Codes.{reach_reason}
use Rattle.road_line.specs.WithinLine.{refused_near_line}
use Rattle.route_client.specs.declared.near_errors.NearError.TheVariants.{Memory}
use Rattle.route_check_c.proofs.LeafLemmas.{reached_apart, reached_leaves, reached_rising}
use Rattle.route_check_c.proofs.Refusals.{refusal_told, reach_refused}
use Rattle.route_check_c.proofs.nearby.gog_proved_nearest.Goals as goal
use Rattle.route_check_c.proofs.nearby.gog_proved_nearest.Goals.{in-Ok-check_near_reply, in-Err-check_near_reply}
use Rattle.octet_text.specs.Want.{no_memory}

pub returns-in-Err-clause-told : goal.returns-in-Err-clause-told
returns-in-Err-clause-told c = inr (inr (record {
  why = c.in-Err.why;
  cause = c.in-Err.ensures.unread;
  numbers = c.refused.ensures;
  room = refl;
  line = refl;
}))

pub tell-requires-clause-leaves : goal.tell-requires-clause-leaves
tell-requires-clause-leaves c =
    reached_leaves sha256 c.args.public.now c.as_slice.result.now c.args.reply.now (record { from = c.args.from; radius = c.args.radius }) c.args.least
    c.in-Ok-check_near_reply.checked c.in-Ok-check_near_reply.ensures.spelled c.in-Ok-check_near_reply.ensures.verdict

pub tell-requires-clause-apart : goal.tell-requires-clause-apart
tell-requires-clause-apart c =
    reached_apart sha256 c.args.public.now c.as_slice.result.now c.args.reply.now (record { from = c.args.from; radius = c.args.radius }) c.args.least
    c.in-Ok-check_near_reply.checked c.in-Ok-check_near_reply.ensures.spelled c.in-Ok-check_near_reply.ensures.verdict

pub tell-requires-clause-rising : goal.tell-requires-clause-rising
tell-requires-clause-rising c =
    reached_rising sha256 c.args.public.now c.as_slice.result.now c.args.reply.now (record { from = c.args.from; radius = c.args.radius }) c.args.least
    c.in-Ok-check_near_reply.checked c.in-Ok-check_near_reply.ensures.verdict

pub returns-clause-told : goal.returns-clause-told
returns-clause-told c =
    elim c.match-check_near_reply.branch [
      | in-Ok-check_near_reply w ↦
          let spelled : whole chain_file c.args.chain.now ≡ Ok c.as_slice.result.now = search rules in
          rw (w.nodes-is, w.line-is, w.verdict-is) (inl (record {
            links = c.as_slice.result.now;
            spelled = spelled;
            checked = w.in-Ok-check_near_reply.checked;
            brought = w.in-Ok-check_near_reply.ensures.spelled;
            verdict = w.in-Ok-check_near_reply.ensures.verdict;
            told = w.tell.ensures;
            line = refl;
          }))
      | in-Err-check_near_reply w ↦
          let spelled : whole chain_file c.args.chain.now ≡ Ok c.as_slice.result.now = search rules in
          let error = w.in-Err-check_near_reply.error in
          rw (w.nodes-is, w.line-is, w.verdict-is) (inr (refusal_told
          (λ links. IsNearVerdict sha256 c.args.public.now links c.args.reply.now (record { from = c.args.from; radius = c.args.radius }) c.args.least) (Memory no_memory) reach_reason refused_near_line
          c.args.chain.now c.args.reply.now c.as_slice.result.now error c.args.nodes.now w.line_of.result c.args.line.now w.tell_refused.new.line w.tell_refused.result
          spelled (λ not. reach_refused (IsNearVerdict sha256 c.args.public.now c.as_slice.result.now c.args.reply.now (record { from = c.args.from; radius = c.args.radius }) c.args.least) error not w.in-Err-check_near_reply.ensures.verdict) w.line_of.ensures
          (rw (← w.reason_of_reach.ensures) w.tell_refused.ensures.reasoned) w.tell_refused.ensures.short))
    ]
