use Rattle.road_io.specs.Noted.{noted}
use Rattle.signed_out.proofs.OutLemmas.{goes_out}
use Rattle.signed_out.proofs.waiting.SignedSink.has_refused.Goals as goal

pub returns-clause-out : goal.returns-clause-out
returns-clause-out g c =
    let s = c.args.self.now in
    goes_out s.awaited s.is_open (noted s.history.events) s.front s.taken s.shown s.behind s.part s.long s.whole s.signed s.opened
