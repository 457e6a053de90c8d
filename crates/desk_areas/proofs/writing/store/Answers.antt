use Rattle.road_io.proofs.MomentLaws.{weaker}
use Rattle.desk_areas.proofs.Pieces.{torn_within}
use Rattle.desk_areas.proofs.writing.store.Goals as goal

pub returns-clause-moments : goal.returns-clause-moments
returns-clause-moments g c =
    weaker g.D.Disk _ _ _ _ c.put.ensures.moments (λ d i image torn. torn_within c.args.at _ d i (c.requires.within d image) torn)
