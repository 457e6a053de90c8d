use Rattle.std.proofs.Common.{ℕ, List, ◌∙◌, ap, sym}
use Rattle.sha2.specs.Sha256.{sha256}
use Rattle.lms_reduce.specs.Meetings.{MeetAtEnds}
use Rattle.lms_reduce.proofs.MeetingLemmas.{kept-meet}
use Rattle.lms_reduce.proofs.TextLemmas.{EndsOwn-same, sha256-own_ends, sha256-values_text}
use Rattle.lms_ots.specs.Chains.{ended_value}
use Rattle.lms_reduce.proofs.comparing.compare_ends.Goals as goal

pub returns-then-is_same-clause-none : goal.returns-then-is_same-clause-none
returns-then-is_same-clause-none c =
    EndsOwn-same c.args.i.now c.args.q c.args.seed.now c.args.digits.now c.args.ots.now c.requires.size
    (sym c.own_ends-own.ensures ∙ c.if-is_same.ensures.same ∙ c.shown_ends-shown.ensures)

pub keep-requires-clause-one_digest : goal.keep-requires-clause-one_digest
keep-requires-clause-one_digest c =
    let i = c.args.i.now in
    let q = c.args.q in
    ap sha256 c.own_ends-own.ensures ∙ sha256-own_ends i q c.args.seed.now ∙ sym c.requires.same
    ∙ sym (sha256-values_text i q (ended_value i q c.args.digits.now c.args.ots.now)) ∙ ap sha256 (sym c.shown_ends-shown.ensures)

pub returns-clause-meet : goal.returns-clause-meet
returns-clause-meet c =
    kept-meet (λ (left right : List ℕ). MeetAtEnds c.args.i.now c.args.q c.args.seed.now c.args.digits.now c.args.ots.now left right) c.keep.result c.own_ends-own.result c.shown_ends-shown.result c.keep.ensures.kept
    (record { own = c.own_ends-own.ensures; shown = c.shown_ends-shown.ensures })
