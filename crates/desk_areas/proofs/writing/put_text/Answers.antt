use Rattle.std.proofs.Common.{◌≡◌, ◌+◌, List, ℕ, length, arith, sym, subst, length-take}
use Rattle.road_io.proofs.MomentLaws.{weaker}
use Rattle.desk_areas.specs.Layout.{text_at}
use Rattle.desk_areas.proofs.Pieces.{widen}
use Rattle.desk_areas.proofs.Texts.{text_written}
use Rattle.desk_areas.proofs.writing.put_text.Goals as goal

pub store-requires : goal.store-requires
store-requires g c = record { within = λ i image. omega (arith, c.requires.within i image, length-take (length c.args.text.now + 1) c.piece_of-piece.result) }

pub returns-clause-moments : goal.returns-clause-moments
returns-clause-moments g c =
    weaker g.D.Disk _ _ _ _ c.in_ok-store.ensures.moments
    (λ d i image step. widen _ _ (c.args.place + 1) (c.args.place + 2 + length c.args.text.now) d i (omega arith) (omega (arith, length-take (length c.args.text.now + 1) c.piece_of-piece.result)) step)

pub returns-clause-stored : goal.returns-clause-stored
returns-clause-stored g c i image =
    let from = c.in_ok-store.ensures.stored i image in
    subst (λ (l : List ℕ). text_at l c.args.place ≡ c.args.text.now) (sym from.2)
    (text_written c.args.place from.0 c.args.text.now _ (c.requires.within from.0 from.1) c.requires.short c.piece_of-piece.ensures.front)
