use Rattle.std.proofs.Common.{◌∷◌, []}
use Rattle.std.proofs.lemmas.Result.{err_from_is_err_and}
use Rattle.road_io.specs.Moments.{still_told}
use Rattle.audit_commands.specs.Headline.{ClashIn, IsBrought}
use Rattle.command_files.proofs.Written.{moved, narrows_on}
use Rattle.audit_commands.proofs.Steps.{reply_as, chain_as, found, found_other, nothing_found, files_rest_on_none}
use Rattle.audit_commands.proofs.AuditLemmas.{audit_refused, audit_told}
use Rattle.command_files.proofs.Asked.{then_asked, asks_front, asks_all}
use Rattle.audit_commands.proofs.auditing.write_findings.Goals as goal

pub returns-in_err-told-clause-promised : goal.returns-in_err-told-clause-promised
returns-in_err-told-clause-promised g c =
    let p = err_from_is_err_and c.from_residual-in_err-told.result c.from_residual-in_err-told.ensures.1 in
    rw (p.1, p.2)
    (audit_refused g.T.Kind.Replies.kind g.T.Telling.refused _ (still_told g.D.Disk c.args.disk.now c.find.new.disk) c.args.key.now c.args.publication.now c.args.reply.now _ _ c.deref.result.now c.as_slice.result.now _ c.args.query
    (moved _ _ _ (narrows_on _ _ _ (narrows_on _ _ _ c.in_ok-publication.ensures.narrows c.in_ok-reply.ensures.narrows) c.in_ok-links.ensures.narrows) c.in_ok-key.ensures.loads.read)
    (moved _ _ _ (narrows_on _ _ _ c.in_ok-reply.ensures.narrows c.in_ok-links.ensures.narrows) c.in_ok-publication.ensures.loads.read)
    (reply_as _ _ _ _ _ c.in_ok-links.ensures.narrows c.deref.ensures.value c.in_ok-reply.ensures.loads.read)
    (chain_as _ _ _ _ c.as_slice.ensures c.in_ok-links.ensures.loads.read) _ _ _ _ _ _ _ c.in_err-told.ensures.refused)

pub returns-clause-promised : goal.returns-clause-promised
returns-clause-promised g c =
    audit_told g.T.Kind.Replies.kind g.T.Telling.refused _ (still_told g.D.Disk c.args.disk.now c.find.new.disk) c.args.key.now c.args.publication.now c.args.reply.now _ _ c.deref.result.now c.as_slice.result.now _ c.args.query
    (moved _ _ _ (narrows_on _ _ _ (narrows_on _ _ _ c.in_ok-publication.ensures.narrows c.in_ok-reply.ensures.narrows) c.in_ok-links.ensures.narrows) c.in_ok-key.ensures.loads.read)
    (moved _ _ _ (narrows_on _ _ _ c.in_ok-reply.ensures.narrows c.in_ok-links.ensures.narrows) c.in_ok-publication.ensures.loads.read)
    (reply_as _ _ _ _ _ c.in_ok-links.ensures.narrows c.deref.ensures.value c.in_ok-reply.ensures.loads.read)
    (chain_as _ _ _ _ c.as_slice.ensures c.in_ok-links.ensures.loads.read) _ _ _ _ _ _ _ _ _ _ c.in_ok-told.ensures.verdict c.in_ok-told.ensures.told c.write_told.ensures.writes

pub returns-in_err-key-clause-finds : goal.returns-in_err-key-clause-finds
returns-in_err-key-clause-finds g c =
    let p = err_from_is_err_and c.from_residual.result c.from_residual.ensures.1 in
    rw (p.1, p.2) (nothing_found g.D.Disk c.args.disk.now (IsBrought g.T.Kind.Replies.kind) (ClashIn g.T.Kind.Replies.kind) c.args.key.now c.args.publication.now c.args.reply.now _ _ _ _ _ (files_rest_on_none _ c.in_err-key.ensures.loads.others))

pub returns-in_err-publication-clause-finds : goal.returns-in_err-publication-clause-finds
returns-in_err-publication-clause-finds g c =
    let p = err_from_is_err_and c.from_residual-in_err-publication.result c.from_residual-in_err-publication.ensures.1 in
    rw (p.1, p.2) (nothing_found g.D.Disk c.args.disk.now (IsBrought g.T.Kind.Replies.kind) (ClashIn g.T.Kind.Replies.kind) c.args.key.now c.args.publication.now c.args.reply.now _ _ _ _ _ (files_rest_on_none _ c.in_err-publication.ensures.loads.others))

pub returns-in_err-reply-clause-finds : goal.returns-in_err-reply-clause-finds
returns-in_err-reply-clause-finds g c =
    let p = err_from_is_err_and c.from_residual-in_err-reply.result c.from_residual-in_err-reply.ensures.1 in
    rw (p.1, p.2) (nothing_found g.D.Disk c.args.disk.now (IsBrought g.T.Kind.Replies.kind) (ClashIn g.T.Kind.Replies.kind) c.args.key.now c.args.publication.now c.args.reply.now _ _ _ _ _ (files_rest_on_none _ c.in_err-reply.ensures.loads.others))

pub returns-in_err-links-clause-finds : goal.returns-in_err-links-clause-finds
returns-in_err-links-clause-finds g c =
    let p = err_from_is_err_and c.from_residual-in_err-links.result c.from_residual-in_err-links.ensures.1 in
    rw (p.1, p.2) (nothing_found g.D.Disk c.args.disk.now (IsBrought g.T.Kind.Replies.kind) (ClashIn g.T.Kind.Replies.kind) c.args.key.now c.args.publication.now c.args.reply.now _ _ _ _ _ (files_rest_on_none _ c.in_err-links.ensures.loads.others))

pub returns-in_err-told-clause-finds : goal.returns-in_err-told-clause-finds
returns-in_err-told-clause-finds g c =
    let p = err_from_is_err_and c.from_residual-in_err-told.result c.from_residual-in_err-told.ensures.1 in
    rw (p.1, p.2)
    (found_other _ c.args.key.now c.args.publication.now c.args.reply.now _ _ c.deref.result.now c.as_slice.result.now _ (moved _ _ _ (narrows_on _ _ _ (narrows_on _ _ _ c.in_ok-publication.ensures.narrows c.in_ok-reply.ensures.narrows) c.in_ok-links.ensures.narrows) c.in_ok-key.ensures.loads.read)
    (moved _ _ _ (narrows_on _ _ _ c.in_ok-reply.ensures.narrows c.in_ok-links.ensures.narrows) c.in_ok-publication.ensures.loads.read)
    (reply_as _ _ _ _ _ c.in_ok-links.ensures.narrows c.deref.ensures.value c.in_ok-reply.ensures.loads.read)
    (chain_as _ _ _ _ c.as_slice.ensures c.in_ok-links.ensures.loads.read) g.D.Disk c.find.new.disk (IsBrought g.T.Kind.Replies.kind) (ClashIn g.T.Kind.Replies.kind) _ c.in_err-told.field-0.0 c.in_err-told.ensures.others)

pub returns-clause-finds : goal.returns-clause-finds
returns-clause-finds g c =
    found _ c.args.key.now c.args.publication.now c.args.reply.now _ _ c.deref.result.now c.as_slice.result.now _ (moved _ _ _ (narrows_on _ _ _ (narrows_on _ _ _ c.in_ok-publication.ensures.narrows c.in_ok-reply.ensures.narrows) c.in_ok-links.ensures.narrows) c.in_ok-key.ensures.loads.read)
    (moved _ _ _ (narrows_on _ _ _ c.in_ok-reply.ensures.narrows c.in_ok-links.ensures.narrows) c.in_ok-publication.ensures.loads.read)
    (reply_as _ _ _ _ _ c.in_ok-links.ensures.narrows c.deref.ensures.value c.in_ok-reply.ensures.loads.read)
    (chain_as _ _ _ _ c.as_slice.ensures c.in_ok-links.ensures.loads.read) g.D.Disk c.find.new.disk (IsBrought g.T.Kind.Replies.kind) (ClashIn g.T.Kind.Replies.kind) _ _ _ _ _ _ _ c.in_ok-told.ensures.rests c.in_ok-told.ensures.verdict c.write_told.ensures.writes

pub returns-in_err-key-clause-asked : goal.returns-in_err-key-clause-asked
returns-in_err-key-clause-asked g c = asks_front (_ ∷ []) _ _ _ c.in_err-key.ensures.asked

pub returns-in_err-publication-clause-asked : goal.returns-in_err-publication-clause-asked
returns-in_err-publication-clause-asked g c = asks_front (_ ∷ _ ∷ []) _ _ _ (then_asked _ _ _ _ _ c.in_ok-key.ensures.asked c.in_err-publication.ensures.asked)

pub returns-in_err-reply-clause-asked : goal.returns-in_err-reply-clause-asked
returns-in_err-reply-clause-asked g c = asks_front (_ ∷ _ ∷ _ ∷ []) _ _ _ (then_asked _ _ _ _ _ c.in_ok-key.ensures.asked (then_asked _ _ _ _ _ c.in_ok-publication.ensures.asked c.in_err-reply.ensures.asked))

pub returns-in_err-links-clause-asked : goal.returns-in_err-links-clause-asked
returns-in_err-links-clause-asked g c = asks_all _ _ _ (then_asked _ _ _ _ _ c.in_ok-key.ensures.asked (then_asked _ _ _ _ _ c.in_ok-publication.ensures.asked (then_asked _ _ _ _ _ c.in_ok-reply.ensures.asked c.in_err-links.ensures.asked)))

pub returns-in_err-told-clause-asked : goal.returns-in_err-told-clause-asked
returns-in_err-told-clause-asked g c = asks_all _ _ _ (then_asked _ _ _ _ _ c.in_ok-key.ensures.asked (then_asked _ _ _ _ _ c.in_ok-publication.ensures.asked (then_asked _ _ _ _ _ c.in_ok-reply.ensures.asked c.in_ok-links.ensures.asked)))

pub returns-clause-asked : goal.returns-clause-asked
returns-clause-asked g c = asks_all _ _ _ (then_asked _ _ _ _ _ c.in_ok-key.ensures.asked (then_asked _ _ _ _ _ c.in_ok-publication.ensures.asked (then_asked _ _ _ _ _ c.in_ok-reply.ensures.asked c.in_ok-links.ensures.asked)))
