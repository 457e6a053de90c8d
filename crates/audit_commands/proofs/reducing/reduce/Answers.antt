use Rattle.std.proofs.Common.{◌∷◌, []}
use Rattle.std.proofs.lemmas.Result.{err_from_is_err_and}
use Rattle.road_io.specs.Moments.{still_told}
use Rattle.command_files.proofs.Written.{moved, narrows_on}
use Rattle.audit_commands.proofs.ReduceLemmas.{hex_as, reduce_refused, reduce_told, reduced_written}
use Rattle.command_files.proofs.Asked.{then_asked, asks_front, asks_all}
use Rattle.audit_commands.proofs.reducing.reduce.Goals as goal

pub returns-in_err-told-clause-promised : goal.returns-in_err-told-clause-promised
returns-in_err-told-clause-promised g c =
    let p = err_from_is_err_and c.from_residual-in_err-told.result c.from_residual-in_err-told.ensures.1 in
    rw (p.1, p.2)
    (reduce_refused _ (still_told g.D.Disk c.args.disk.now c.find.new.disk) c.args.key.now c.args.text.now c.args.signature.now _ c.deref.result.now c.deref-2.result.now
    (moved _ _ _ (narrows_on _ _ _ c.in_ok-text.ensures.narrows c.in_ok-sig.ensures.narrows) c.in_ok-public.ensures.loads.read)
    (hex_as _ _ _ _ c.deref.ensures.value (moved _ _ _ c.in_ok-sig.ensures.narrows c.in_ok-text.ensures.loads.read))
    (hex_as _ _ _ _ c.deref-2.ensures.value c.in_ok-sig.ensures.loads.read) _ _ _ _ _ _ _ c.in_err-told.ensures.refused)

pub returns-clause-promised : goal.returns-clause-promised
returns-clause-promised g c =
    reduce_told _ (still_told g.D.Disk c.args.disk.now c.find.new.disk) c.args.key.now c.args.text.now c.args.signature.now _ c.deref.result.now c.deref-2.result.now
    (moved _ _ _ (narrows_on _ _ _ c.in_ok-text.ensures.narrows c.in_ok-sig.ensures.narrows) c.in_ok-public.ensures.loads.read)
    (hex_as _ _ _ _ c.deref.ensures.value (moved _ _ _ c.in_ok-sig.ensures.narrows c.in_ok-text.ensures.loads.read))
    (hex_as _ _ _ _ c.deref-2.ensures.value c.in_ok-sig.ensures.loads.read) _ _ _ _ _ _ _ _ _ _ c.in_ok-told.ensures.verdict c.in_ok-told.ensures.told c.write_told.ensures.writes

pub returns-in_err-public-clause-unreleased : goal.returns-in_err-public-clause-unreleased
returns-in_err-public-clause-unreleased g c =
    let p = err_from_is_err_and c.from_residual.result c.from_residual.ensures.1 in
    rw p.1 tt

pub returns-in_err-text-clause-unreleased : goal.returns-in_err-text-clause-unreleased
returns-in_err-text-clause-unreleased g c =
    let p = err_from_is_err_and c.from_residual-in_err-text.result c.from_residual-in_err-text.ensures.1 in
    rw p.1 tt

pub returns-in_err-sig-clause-unreleased : goal.returns-in_err-sig-clause-unreleased
returns-in_err-sig-clause-unreleased g c =
    let p = err_from_is_err_and c.from_residual-in_err-sig.result c.from_residual-in_err-sig.ensures.1 in
    rw p.1 tt

pub returns-in_err-told-clause-unreleased : goal.returns-in_err-told-clause-unreleased
returns-in_err-told-clause-unreleased g c =
    let p = err_from_is_err_and c.from_residual-in_err-told.result c.from_residual-in_err-told.ensures.1 in
    rw p.1 tt

pub returns-clause-unreleased : goal.returns-clause-unreleased
returns-clause-unreleased g c =
    reduced_written g.D.Disk c.find.new.disk _ c.args.text.now c.args.signature.now c.deref.result.now c.deref-2.result.now
    (hex_as _ _ _ _ c.deref.ensures.value (moved _ _ _ c.in_ok-sig.ensures.narrows c.in_ok-text.ensures.loads.read))
    (hex_as _ _ _ _ c.deref-2.ensures.value c.in_ok-sig.ensures.loads.read) _ _ _ _ _ _ _ c.in_ok-told.ensures.rests c.write_told.ensures.writes

pub returns-in_err-public-clause-asked : goal.returns-in_err-public-clause-asked
returns-in_err-public-clause-asked g c = asks_front (_ ∷ []) _ _ _ c.in_err-public.ensures.asked

pub returns-in_err-text-clause-asked : goal.returns-in_err-text-clause-asked
returns-in_err-text-clause-asked g c = asks_front (_ ∷ _ ∷ []) _ _ _ (then_asked _ _ _ _ _ c.in_ok-public.ensures.asked c.in_err-text.ensures.asked)

pub returns-in_err-sig-clause-asked : goal.returns-in_err-sig-clause-asked
returns-in_err-sig-clause-asked g c = asks_all _ _ _ (then_asked _ _ _ _ _ c.in_ok-public.ensures.asked (then_asked _ _ _ _ _ c.in_ok-text.ensures.asked c.in_err-sig.ensures.asked))

pub returns-in_err-told-clause-asked : goal.returns-in_err-told-clause-asked
returns-in_err-told-clause-asked g c = asks_all _ _ _ (then_asked _ _ _ _ _ c.in_ok-public.ensures.asked (then_asked _ _ _ _ _ c.in_ok-text.ensures.asked c.in_ok-sig.ensures.asked))

pub returns-clause-asked : goal.returns-clause-asked
returns-clause-asked g c = asks_all _ _ _ (then_asked _ _ _ _ _ c.in_ok-public.ensures.asked (then_asked _ _ _ _ _ c.in_ok-text.ensures.asked c.in_ok-sig.ensures.asked))
