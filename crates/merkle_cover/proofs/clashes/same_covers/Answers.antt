use Rattle.std.proofs.lemmas.Bool.{OnTrue_from}
use Rattle.std.proofs.lemmas.Slice.Eq.{slice_eq-Decides, bytes_eq-Decides}
use Rattle.merkle_cover.proofs.clashes.same_covers.Goals as goal

pub returns : goal.returns
returns c = OnTrue_from c.eq.result _ (slice_eq-Decides bytes_eq-Decides _ _ _ c.eq.ensures).0
