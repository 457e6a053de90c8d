use Rattle.audit_commands.proofs.HeadlineLemmas.{audits_accepted}
use Rattle.audit_commands.proofs.auditing.audit_files.Goals as goal

pub returns : goal.returns
returns g c = record {
  promised = c.write_findings.ensures.promised;
  finds = c.write_findings.ensures.finds;
  headline = audits_accepted g.T.Kind.Replies.kind g.T.Telling.refused c.laws.ensures c.server_laws.ensures g.D.Disk c.write_findings.new.disk
      _ _ _ _ _ _ _ _ _ _ c.write_findings.ensures.promised.mirror c.write_findings.ensures.promised.answered c.write_findings.ensures.finds;
  stays = c.write_findings.ensures.stays;
  unfaulted = c.write_findings.ensures.unfaulted;
  library = c.write_findings.ensures.library;
  asks = c.write_findings.ensures.asked;
  sink = c.write_findings.ensures.sink;
}
