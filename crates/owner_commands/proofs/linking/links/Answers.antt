use Rattle.std.proofs.lemmas.Result.{err_from_is_err_and}
use Rattle.road_io.specs.Causes.{Rose}
use Rattle.road_io.specs.Moments.{still_told}
use Rattle.command_desks.specs.Opening.{EndsOpening}
use Rattle.command_files.specs.Endings.{NoEnd}
use Rattle.owner_commands.proofs.SuccessionLemmas.{links_refused, links_written}
use Rattle.owner_commands.proofs.StandingLemmas.{none_written, chain_written}
use Rattle.owner_commands.proofs.linking.links.Goals as goal

pub returns-in_err-chain-clause-promised : goal.returns-in_err-chain-clause-promised
returns-in_err-chain-clause-promised g c =
    let p = err_from_is_err_and c.from_residual.result c.from_residual.ensures.1 in
    rw (p.1, p.2)
    (links_refused _ _ _ _ _ _ c.in_err-chain.ensures.refused)

pub returns-clause-promised : goal.returns-clause-promised
returns-clause-promised g c =
    links_written _ _ _ _ _ _ _ _ _ c.in_ok-chain.ensures.usable c.in_ok-chain.ensures.chain c.deref.ensures.value c.write_text.ensures.writes

pub returns-in_err-chain-clause-sealed : goal.returns-in_err-chain-clause-sealed
returns-in_err-chain-clause-sealed g c =
    let p = err_from_is_err_and c.from_residual.result c.from_residual.ensures.1 in
    rw (p.1, p.2)
    (none_written (Rose (g.D.Disk.faults c.args.disk.now) (g.D.Disk.faults c.chain_on.new.disk)) (EndsOpening (still_told g.D.Disk c.args.disk.now c.chain_on.new.disk) NoEnd) c.in_err-chain.field-0.0 _ c.in_err-chain.ensures.refused)

pub returns-clause-sealed : goal.returns-clause-sealed
returns-clause-sealed g c =
    chain_written g.D.Disk c.chain_on.new.disk _ _ _ _ _ _ _ c.deref.ensures.value c.in_ok-chain.ensures.stand c.write_text.ensures.writes
