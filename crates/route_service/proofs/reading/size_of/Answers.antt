use Rattle.std.proofs.Common.{refl, ◌∷◌, []}
use Rattle.std.proofs.lemmas.Nat.{be_bytes_4}
use Rattle.route_service.proofs.FrameLemmas.{bytes_four}
use Rattle.route_service.proofs.reading.size_of.Goals as goal

pub returns : goal.returns
returns k = let r = k.ranges in be_bytes_4 (k.args.a ∷ k.args.b ∷ k.args.c ∷ k.args.d ∷ []) k.from_be_bytes.result refl (bytes_four _ _ _ _ r.a.fits r.b.fits r.c.fits r.d.fits) k.from_be_bytes.ensures
