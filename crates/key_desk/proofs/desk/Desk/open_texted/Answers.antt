use Rattle.std.proofs.Common.{◌≡◌, ◌+◌, List, ℕ}
use Rattle.road_io.specs.Moments.{Image, EachImage, AtEachMoment}
use Rattle.desk_areas.specs.Layout.{place_in, gate_at, AgreesOutside}
use Rattle.desk_areas.proofs.OnOks.{on_ok}
use Rattle.key_desk.specs.Spending.{HasSpent}
use Rattle.key_desk.proofs.Spending.{opens_moments, opens_spent}
use Rattle.key_desk.proofs.desk.Desk.open_texted.Goals as goal

pub returns-clause-moments : goal.returns-clause-moments
returns-clause-moments g c =
    opens_moments g.D.Disk c.args.self.now c.args.disk.now c.open_gate.new.disk c.args.number c.requires.fits c.requires.early c.requires.texted (rw c.place.ensures.place at c.open_gate.ensures.moments)

pub returns-clause-spent : goal.returns-clause-spent
returns-clause-spent g c =
    on_ok c.open_gate.result (EachImage g.D.Disk c.open_gate.new.disk (λ i. gate_at i (place_in c.args.self.now.base c.args.number) ≡ 1)) (EachImage g.D.Disk c.open_gate.new.disk (λ i. (d : List ℕ) × Image g.D.Disk c.args.disk.now d × HasSpent c.args.number d i))
    (rw c.place.ensures.place at c.open_gate.ensures.stored)
    (opens_spent g.D.Disk c.args.self.now c.args.disk.now c.open_gate.new.disk c.args.number c.requires.fits c.requires.early c.requires.texted (rw c.place.ensures.place at c.open_gate.ensures.moments))
