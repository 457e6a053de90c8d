use Rattle.std.proofs.Common.{List, ℕ, length, sym, subst}
use Rattle.road_io.specs.Disk.{Torn, Stays}
use Rattle.road_io.proofs.MomentLaws.{continued}
use Rattle.desk_areas.proofs.writing.put.Goals as goal

pub returns-clause-moments : goal.returns-clause-moments
returns-clause-moments g c =
    let torn = Torn c.args.at (length c.args.octets.now) in
    continued g.D.Disk _ _ _ torn Stays torn c.write_at.ensures.moments c.sync.ensures.moments (λ d i image step. step)
    (λ d e i image after step same. subst (λ (l : List ℕ). torn d l) (sym same) step)
