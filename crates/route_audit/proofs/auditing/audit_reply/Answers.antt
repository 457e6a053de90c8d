use Rattle.std.proofs.Common.{subst, List, ℕ, Err}
use Rattle.std.proofs.lemmas.Result.{err_from_is_err_and}
use Rattle.sha2.specs.Sha256.{sha256}
use Rattle.desk_look.specs.Looks.{IsKeyFrom, look_at}
use Rattle.route_audit.specs.Steps.{FindsIn}
use Rattle.route_audit.proofs.FindingLemmas.{at, audits_after, audits_before, found_finds, found_late, not_installed_desk, not_installed_finds}
use Rattle.route_audit.proofs.auditing.audit_reply.Goals as goal

pub returns-in_err-held : goal.returns-in_err-held
returns-in_err-held g c =
    let kind = g.R.Replies.kind in
    let hash = g.H.Hasher.hash in
    let look = look_at g.D.Disk c.args.desk.now c.args.disk.now c.args.disk.now in
    let own = subst (IsKeyFrom c.args.desk.now 0) c.in-Some.ensures.same c.in-Some.ensures.own in
    let why = c.in_err-held.field-0.0 in
    let p = err_from_is_err_and c.from_residual-in_err-held.result c.from_residual-in_err-held.ensures.1 in
    rw (p.1, p.2)
    (audits_before kind c.laws.ensures hash (c.server_laws.ensures hash sha256) g.D.Disk c.args.desk.now c.args.disk.now c.requires.fits (at c.args.public.now c.args.chain.now c.args.reply.now c.args.query c.args.publication) (Err why)
    (not_installed_desk hash sha256 c.args.publication why c.in_err-held.ensures.refused)
    (not_installed_finds kind hash look c.args.public.now c.args.chain.now c.args.reply.now c.args.query own sha256 c.args.publication c.in_ok-answer.answer why c.in_ok-answer.ensures.accepted c.in_err-held.ensures.refused))

pub returns : goal.returns
returns g c =
    let kind = g.R.Replies.kind in
    let hash = g.H.Hasher.hash in
    let look = look_at g.D.Disk c.args.desk.now c.args.disk.now c.find_in.new.disk in
    let own = subst (IsKeyFrom c.args.desk.now 0) c.in-Some.ensures.same c.in-Some.ensures.own in
    let found = subst (λ (key : List ℕ). FindsIn kind hash sha256 look key c.args.chain.now c.in_ok-held.held c.args.query c.in_ok-answer.answer c.find_in.result) c.in-Some.ensures.same c.find_in.ensures.finds in
    audits_after kind c.laws.ensures hash (c.server_laws.ensures hash sha256) g.D.Disk c.args.desk.now c.args.disk.now c.requires.fits (at c.args.public.now c.args.chain.now c.args.reply.now c.args.query c.args.publication) c.find_in.new.desk c.find_in.new.disk c.find_in.result
    (found_finds kind hash look c.args.public.now c.args.chain.now c.args.reply.now c.args.query own c.args.publication c.in_ok-answer.answer c.in_ok-held.held c.find_in.result c.in_ok-answer.ensures.accepted c.in_ok-held.ensures.installed found)
    (found_late kind hash sha256 look c.args.public.now c.args.chain.now c.in_ok-held.held c.args.query c.in_ok-answer.answer c.find_in.result _ found)
    c.find_in.ensures.left c.find_in.ensures.closes c.find_in.ensures.kept
