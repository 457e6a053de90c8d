use Rattle.road_run.proofs.RunLemmas.{run_without_disk, has_ended, has_ended_signed, asks_none}
use Rattle.road_run.proofs.WorkLemmas.{gone_for, gone_for_none, works, works_nothing, works_without_source, works_without_disk}
use Rattle.key_desk.proofs.Standing.{standing_same}
use Rattle.command_files.proofs.Asked.{asks_all}
use Rattle.std.proofs.Common.{refl, option_map}
use Rattle.std.specs.declared.option.Option.TheVariants.{None}
use Rattle.road_run.proofs.program.work.Goals as goal

pub returns-in-None : goal.returns-in-None
returns-in-None g c = record {
  works =
      works_nothing g.L.Library g.S.Source g.K.Sink g.D.Disk g.M.Mirror _ _ _ _ _ _ c.in-None.ensures.is;
  gone = λ h. gone_for_none g.M.Mirror.octets g.M.Mirror.named g.M.Mirror.handed g.M.Mirror.puts g.M.Mirror.room g.M.Mirror.faults g.D.Disk _ _ _ _ _ _ _ _ _ _ c.in-None.ensures.is refl;
}

pub returns-in-Some-Route : goal.returns-in-Some-Route
returns-in-Some-Route g c = record {
  works =
      works_without_disk g.L.Library g.S.Source g.K.Sink g.D.Disk g.M.Mirror _ _ _ _ _ _ _ _ _ _ (rw c.in-Some-Route.field-0-is at c.in-Some-Route.ensures.is) (λ P. tt) (λ P p. p) (λ t. t) c.route.ensures.promised (λ h. h) refl
      c.route.ensures.library c.route.ensures.sink (asks_all _ _ _ c.route.ensures.asked) (refl, refl);
  gone = λ h. gone_for g.M.Mirror.octets g.M.Mirror.named g.M.Mirror.handed g.M.Mirror.puts g.M.Mirror.room g.M.Mirror.faults g.D.Disk _ _ _ _ _ _ _ _ _ _ _ (rw c.in-Some-Route.field-0-is at c.in-Some-Route.ensures.is) refl;
}

pub returns-in-Some-Root : goal.returns-in-Some-Root
returns-in-Some-Root g c = record {
  works =
      works_without_disk g.L.Library g.S.Source g.K.Sink g.D.Disk g.M.Mirror _ _ _ _ _ _ _ _ _ _ (rw c.in-Some-Root.field-0-is at c.in-Some-Root.ensures.is) (λ P. tt) (λ P p. p) (λ t. t) c.root.ensures.promised (λ h. h) refl
      c.root.ensures.library c.root.ensures.sink (asks_all _ _ _ c.root.ensures.asked) (refl, refl);
  gone = λ h. gone_for g.M.Mirror.octets g.M.Mirror.named g.M.Mirror.handed g.M.Mirror.puts g.M.Mirror.room g.M.Mirror.faults g.D.Disk _ _ _ _ _ _ _ _ _ _ _ (rw c.in-Some-Root.field-0-is at c.in-Some-Root.ensures.is) refl;
}

pub returns-in-Some-Dimacs : goal.returns-in-Some-Dimacs
returns-in-Some-Dimacs g c = record {
  works =
      works_without_disk g.L.Library g.S.Source g.K.Sink g.D.Disk g.M.Mirror _ _ _ _ _ _ _ _ _ _ (rw c.in-Some-Dimacs.field-0-is at c.in-Some-Dimacs.ensures.is) (λ P. tt) (λ P p. p) (λ t. t) c.dimacs.ensures.promised (λ h. h) refl
      c.dimacs.ensures.library c.dimacs.ensures.sink c.dimacs.ensures.asked (refl, refl);
  gone = λ h. gone_for g.M.Mirror.octets g.M.Mirror.named g.M.Mirror.handed g.M.Mirror.puts g.M.Mirror.room g.M.Mirror.faults g.D.Disk _ _ _ _ _ _ _ _ _ _ _ (rw c.in-Some-Dimacs.field-0-is at c.in-Some-Dimacs.ensures.is) refl;
}

pub returns-in-Some-Prove : goal.returns-in-Some-Prove
returns-in-Some-Prove g c = record {
  works =
      works_without_disk g.L.Library g.S.Source g.K.Sink g.D.Disk g.M.Mirror _ _ _ _ _ _ _ _ _ _ (rw c.in-Some-Prove.field-0-is at c.in-Some-Prove.ensures.is) (λ P. tt) (λ P p. p) (λ t. t) c.prove.ensures.promised (λ h. h) refl
      c.prove.ensures.library c.prove.ensures.sink (asks_all _ _ _ c.prove.ensures.asked) (refl, refl);
  gone = λ h. gone_for g.M.Mirror.octets g.M.Mirror.named g.M.Mirror.handed g.M.Mirror.puts g.M.Mirror.room g.M.Mirror.faults g.D.Disk _ _ _ _ _ _ _ _ _ _ _ (rw c.in-Some-Prove.field-0-is at c.in-Some-Prove.ensures.is) refl;
}

pub returns-in-Some-Check : goal.returns-in-Some-Check
returns-in-Some-Check g c = record {
  works =
      works_without_disk g.L.Library g.S.Source g.K.Sink g.D.Disk g.M.Mirror _ _ _ _ _ _ _ _ _ _ (rw c.in-Some-Check.field-0-is at c.in-Some-Check.ensures.is) (λ P. tt) (λ P p. p) (λ t. t) c.check.ensures.promised (λ h. h) refl
      c.check.ensures.library c.check.ensures.sink c.check.ensures.asks (refl, refl);
  gone = λ h. gone_for g.M.Mirror.octets g.M.Mirror.named g.M.Mirror.handed g.M.Mirror.puts g.M.Mirror.room g.M.Mirror.faults g.D.Disk _ _ _ _ _ _ _ _ _ _ _ (rw c.in-Some-Check.field-0-is at c.in-Some-Check.ensures.is) refl;
}

pub returns-in-Some-Reach : goal.returns-in-Some-Reach
returns-in-Some-Reach g c = record {
  works =
      works_without_disk g.L.Library g.S.Source g.K.Sink g.D.Disk g.M.Mirror _ _ _ _ _ _ _ _ _ _ (rw c.in-Some-Reach.field-0-is at c.in-Some-Reach.ensures.is) (λ P. tt) (λ P p. p) (λ t. t) c.reach.ensures.promised (λ h. h) refl
      c.reach.ensures.library c.reach.ensures.sink (asks_all _ _ _ c.reach.ensures.asked) (refl, refl);
  gone = λ h. gone_for g.M.Mirror.octets g.M.Mirror.named g.M.Mirror.handed g.M.Mirror.puts g.M.Mirror.room g.M.Mirror.faults g.D.Disk _ _ _ _ _ _ _ _ _ _ _ (rw c.in-Some-Reach.field-0-is at c.in-Some-Reach.ensures.is) refl;
}

pub returns-in-Some-CheckReach : goal.returns-in-Some-CheckReach
returns-in-Some-CheckReach g c = record {
  works =
      works_without_disk g.L.Library g.S.Source g.K.Sink g.D.Disk g.M.Mirror _ _ _ _ _ _ _ _ _ _ (rw c.in-Some-CheckReach.field-0-is at c.in-Some-CheckReach.ensures.is) (λ P. tt) (λ P p. p) (λ t. t) c.check_reach.ensures.promised (λ h. h) refl
      c.check_reach.ensures.library c.check_reach.ensures.sink c.check_reach.ensures.asks (refl, refl);
  gone = λ h. gone_for g.M.Mirror.octets g.M.Mirror.named g.M.Mirror.handed g.M.Mirror.puts g.M.Mirror.room g.M.Mirror.faults g.D.Disk _ _ _ _ _ _ _ _ _ _ _ (rw c.in-Some-CheckReach.field-0-is at c.in-Some-CheckReach.ensures.is) refl;
}

pub returns-in-Some-Survey : goal.returns-in-Some-Survey
returns-in-Some-Survey g c = record {
  works =
      works_without_disk g.L.Library g.S.Source g.K.Sink g.D.Disk g.M.Mirror _ _ _ _ _ _ _ _ _ _ (rw c.in-Some-Survey.field-0-is at c.in-Some-Survey.ensures.is) (λ P. tt) (λ P p. p) (λ t. t) (c.survey.ensures.promised _ _) (λ h. h) refl
      (λ n. refl) c.survey.ensures.sink (asks_none _ _) (refl, refl, refl);
  gone = λ h. gone_for g.M.Mirror.octets g.M.Mirror.named g.M.Mirror.handed g.M.Mirror.puts g.M.Mirror.room g.M.Mirror.faults g.D.Disk _ _ _ _ _ _ _ _ _ _ _ (rw c.in-Some-Survey.field-0-is at c.in-Some-Survey.ensures.is) refl;
}

pub returns-in-Some-Key : goal.returns-in-Some-Key
returns-in-Some-Key g c = record {
  works =
      works_without_source g.L.Library g.S.Source g.K.Sink g.D.Disk g.M.Mirror _ _ _ _ _ _ _ _ _ _ _ _ (rw c.in-Some-Key.field-0-is at c.in-Some-Key.ensures.is) (λ P. tt) (λ P p. p) (λ t. t) c.key.ensures.promised
      (record { made = c.key.ensures.made; held = c.key.ensures.held; kept = c.key.ensures.kept; moments = c.key.ensures.moments; untouched = c.key.ensures.untouched }) c.key.ensures.stands refl
      c.key.ensures.unfaulted c.key.ensures.library c.key.ensures.sink (asks_all _ _ _ c.key.ensures.asked) refl;
  gone = λ h. gone_for g.M.Mirror.octets g.M.Mirror.named g.M.Mirror.handed g.M.Mirror.puts g.M.Mirror.room g.M.Mirror.faults g.D.Disk _ _ _ _ _ _ _ _ _ _ _ (rw c.in-Some-Key.field-0-is at c.in-Some-Key.ensures.is) refl;
}

pub returns-in-Some-Succeed : goal.returns-in-Some-Succeed
returns-in-Some-Succeed g c = record {
  works =
      works_without_source g.L.Library g.S.Source g.K.Sink g.D.Disk g.M.Mirror _ _ _ _ _ _ _ _ _ _ _ _ (rw c.in-Some-Succeed.field-0-is at c.in-Some-Succeed.ensures.is) (λ P. tt) (λ P p. p) (λ t. t) c.succeed.ensures.promised
      c.succeed.ensures.adds c.succeed.ensures.stands refl
      c.succeed.ensures.unfaulted c.succeed.ensures.library c.succeed.ensures.sink (asks_all _ _ _ c.succeed.ensures.asked) refl;
  gone = λ h. gone_for g.M.Mirror.octets g.M.Mirror.named g.M.Mirror.handed g.M.Mirror.puts g.M.Mirror.room g.M.Mirror.faults g.D.Disk _ _ _ _ _ _ _ _ _ _ _ (rw c.in-Some-Succeed.field-0-is at c.in-Some-Succeed.ensures.is) refl;
}

pub returns-in-Some-Links : goal.returns-in-Some-Links
returns-in-Some-Links g c = record {
  works =
      works_without_source g.L.Library g.S.Source g.K.Sink g.D.Disk g.M.Mirror _ _ _ _ _ _ _ _ _ _ _ _ (rw c.in-Some-Links.field-0-is at c.in-Some-Links.ensures.is) (λ P. tt) (λ P p. p) (λ t. t) (c.links.ensures.promised _ _)
      (c.links.ensures.stays, c.links.ensures.sealed) (standing_same _ _ _ c.links.ensures.stays) refl
      c.links.ensures.unfaulted (λ n. refl) c.links.ensures.sink (asks_none _ _) (refl, refl);
  gone = λ h. gone_for g.M.Mirror.octets g.M.Mirror.named g.M.Mirror.handed g.M.Mirror.puts g.M.Mirror.room g.M.Mirror.faults g.D.Disk _ _ _ _ _ _ _ _ _ _ _ (rw c.in-Some-Links.field-0-is at c.in-Some-Links.ensures.is) refl;
}

pub returns-in-Some-Desk : goal.returns-in-Some-Desk
returns-in-Some-Desk g c = record {
  works =
      works_without_source g.L.Library g.S.Source g.K.Sink g.D.Disk g.M.Mirror _ _ _ _ _ _ _ _ _ _ _ _ (rw c.in-Some-Desk.field-0-is at c.in-Some-Desk.ensures.is) (λ P. tt) (λ P p. p) (λ t. t) (c.desk.ensures.promised _ _)
      c.desk.ensures.stays (standing_same _ _ _ c.desk.ensures.stays) refl
      c.desk.ensures.unfaulted (λ n. refl) c.desk.ensures.sink (asks_none _ _) (refl, refl);
  gone = λ h. gone_for g.M.Mirror.octets g.M.Mirror.named g.M.Mirror.handed g.M.Mirror.puts g.M.Mirror.room g.M.Mirror.faults g.D.Disk _ _ _ _ _ _ _ _ _ _ _ (rw c.in-Some-Desk.field-0-is at c.in-Some-Desk.ensures.is) refl;
}

pub returns-in-Some-Publish : goal.returns-in-Some-Publish
returns-in-Some-Publish g c = record {
  works =
      works_without_source g.L.Library g.S.Source g.K.Sink g.D.Disk g.M.Mirror _ _ _ _ _ _ _ _ _ _ _ _ (rw c.in-Some-Publish.field-0-is at c.in-Some-Publish.ensures.is) (λ P. tt) (λ P p. p) (λ t. t) c.publish.ensures.promised
      (c.publish.ensures.sealed, c.publish.ensures.signs, c.publish.ensures.untouched, c.publish.ensures.few) c.publish.ensures.stands c.publish.ensures.mirrored
      c.publish.ensures.unfaulted c.publish.ensures.library c.publish.ensures.sink (asks_all _ _ _ c.publish.ensures.asked) refl;
  gone = λ h. gone_for g.M.Mirror.octets g.M.Mirror.named g.M.Mirror.handed g.M.Mirror.puts g.M.Mirror.room g.M.Mirror.faults g.D.Disk _ _ _ _ _ _ _ _ _ _ _ (rw c.in-Some-Publish.field-0-is at c.in-Some-Publish.ensures.is) (c.publish.ensures.gone h);
}

pub returns-in-Some-Audit : goal.returns-in-Some-Audit
returns-in-Some-Audit g c = record {
  works =
      works_without_source g.L.Library g.S.Source g.K.Sink g.D.Disk g.M.Mirror _ _ _ _ _ _ _ _ _ _ _ _ (rw c.in-Some-Audit.field-0-is at c.in-Some-Audit.ensures.is) (λ P. tt) (λ P p. p) (λ t. t) c.audit.ensures.promised
      (c.audit.ensures.stays, c.audit.ensures.finds, c.audit.ensures.headline) (standing_same _ _ _ c.audit.ensures.stays) refl
      c.audit.ensures.unfaulted c.audit.ensures.library c.audit.ensures.sink c.audit.ensures.asks refl;
  gone = λ h. gone_for g.M.Mirror.octets g.M.Mirror.named g.M.Mirror.handed g.M.Mirror.puts g.M.Mirror.room g.M.Mirror.faults g.D.Disk _ _ _ _ _ _ _ _ _ _ _ (rw c.in-Some-Audit.field-0-is at c.in-Some-Audit.ensures.is) refl;
}

pub returns-in-Some-AuditReach : goal.returns-in-Some-AuditReach
returns-in-Some-AuditReach g c = record {
  works =
      works_without_source g.L.Library g.S.Source g.K.Sink g.D.Disk g.M.Mirror _ _ _ _ _ _ _ _ _ _ _ _ (rw c.in-Some-AuditReach.field-0-is at c.in-Some-AuditReach.ensures.is) (λ P. tt) (λ P p. p) (λ t. t) c.audit_reach.ensures.promised
      (c.audit_reach.ensures.stays, c.audit_reach.ensures.finds, c.audit_reach.ensures.headline) (standing_same _ _ _ c.audit_reach.ensures.stays) refl
      c.audit_reach.ensures.unfaulted c.audit_reach.ensures.library c.audit_reach.ensures.sink c.audit_reach.ensures.asks refl;
  gone = λ h. gone_for g.M.Mirror.octets g.M.Mirror.named g.M.Mirror.handed g.M.Mirror.puts g.M.Mirror.room g.M.Mirror.faults g.D.Disk _ _ _ _ _ _ _ _ _ _ _ (rw c.in-Some-AuditReach.field-0-is at c.in-Some-AuditReach.ensures.is) refl;
}

pub returns-in-Some-Reduce : goal.returns-in-Some-Reduce
returns-in-Some-Reduce g c = record {
  works =
      works_without_source g.L.Library g.S.Source g.K.Sink g.D.Disk g.M.Mirror _ _ _ _ _ _ _ _ _ _ _ _ (rw c.in-Some-Reduce.field-0-is at c.in-Some-Reduce.ensures.is) (λ P. tt) (λ P p. p) (λ t. t) c.reduce.ensures.promised
      (c.reduce.ensures.stays, c.reduce.ensures.unreleased) (standing_same _ _ _ c.reduce.ensures.stays) refl
      c.reduce.ensures.unfaulted c.reduce.ensures.library c.reduce.ensures.sink c.reduce.ensures.asked refl;
  gone = λ h. gone_for g.M.Mirror.octets g.M.Mirror.named g.M.Mirror.handed g.M.Mirror.puts g.M.Mirror.room g.M.Mirror.faults g.D.Disk _ _ _ _ _ _ _ _ _ _ _ (rw c.in-Some-Reduce.field-0-is at c.in-Some-Reduce.ensures.is) refl;
}

pub returns-in-Some-Serve : goal.returns-in-Some-Serve
returns-in-Some-Serve g c = record {
  works =
      works g.L.Library g.S.Source g.K.Sink g.D.Disk g.M.Mirror _ _ _ _ _ _ _ _ _ _ _ _ _ (rw c.in-Some-Serve.field-0-is at c.in-Some-Serve.ensures.is) (record {
        promised = run_without_disk g.D.Disk c.args.disk.now _ _ _ _ _ _ _ _ _ _ refl (λ h. h) c.serve.ensures.promised;
        takes = record { serves = c.serve.ensures.serves; kept = tt; source = c.serve.ensures.serves.source };
        gave = record { serves = c.serve.ensures.gave; ended = has_ended c.in-Some-Serve.publication.now _ _ c.serve.ensures.ended c.serve.ensures.cut; nothing = tt };
        mirrors = refl;
        unfaulted = λ n. refl;
        library_spared = c.serve.ensures.library;
        source_spared = c.serve.ensures.source;
        sink_spared = c.serve.ensures.sink;
        asks = asks_all _ _ _ c.serve.ensures.asked;
        unused = refl;
      });
  gone = λ h. gone_for g.M.Mirror.octets g.M.Mirror.named g.M.Mirror.handed g.M.Mirror.puts g.M.Mirror.room g.M.Mirror.faults g.D.Disk _ _ _ _ _ _ _ _ _ _ _ (rw c.in-Some-Serve.field-0-is at c.in-Some-Serve.ensures.is) refl;
}

pub returns-in-Some-ServeSigned : goal.returns-in-Some-ServeSigned
returns-in-Some-ServeSigned g c = record {
  works =
      works g.L.Library g.S.Source g.K.Sink g.D.Disk g.M.Mirror _ _ _ _ _ _ _ _ _ _ _ _ _ (rw c.in-Some-ServeSigned.field-0-is at c.in-Some-ServeSigned.ensures.is) (record {
        promised = run_without_disk g.D.Disk c.args.disk.now _ _ _ _ _ _ _ _ _ _ refl (λ h. h) c.serve_signed.ensures.promised;
        takes = record { serves = c.serve_signed.ensures.serves; kept = tt; source = c.serve_signed.ensures.serves.source };
        gave = record { serves = c.serve_signed.ensures.gave; ended = has_ended_signed c.in-Some-ServeSigned.file.now c.in-Some-ServeSigned.key.now (option_map (λ name. name.now) c.in-Some-ServeSigned.chain) _ _ c.serve_signed.ensures.ended c.serve_signed.ensures.cut; nothing = tt };
        mirrors = refl;
        unfaulted = λ n. refl;
        library_spared = c.serve_signed.ensures.library;
        source_spared = c.serve_signed.ensures.source;
        sink_spared = c.serve_signed.ensures.sink;
        asks = c.serve_signed.ensures.asked;
        unused = refl;
      });
  gone = λ h. gone_for g.M.Mirror.octets g.M.Mirror.named g.M.Mirror.handed g.M.Mirror.puts g.M.Mirror.room g.M.Mirror.faults g.D.Disk _ _ _ _ _ _ _ _ _ _ _ (rw c.in-Some-ServeSigned.field-0-is at c.in-Some-ServeSigned.ensures.is) refl;
}
