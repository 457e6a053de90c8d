use Rattle.std.proofs.Common.{◌∙◌, sym}
use Rattle.desk_fit.proofs.FitSteps.{stable_behind, still_behind}
use Rattle.desk_fit.proofs.fit.stable_image.Goals as goal

pub returns-clause-stable : goal.returns-clause-stable
returns-clause-stable g c =
    stable_behind g.D.Disk c.settle.new.disk c.image_of.new.disk (g.met.D.Disk.image_tells c.image_of.new.disk) c.in_ok-settle.ensures.stable c.image_of.ensures.moments c.image_of.ensures.content

pub returns-clause-content : goal.returns-clause-content
returns-clause-content g c = λ x told. sym c.in_ok-settle.ensures.content ∙ c.image_of.ensures.content x told

pub returns-clause-stays : goal.returns-clause-stays
returns-clause-stays g c = still_behind g.D.Disk c.args.disk.now c.settle.new.disk c.image_of.new.disk c.settle.ensures.moments c.image_of.ensures.moments
