use Rattle.std.proofs.Common.{◌≡◌, ◌∙◌, ℕ, List, Some, sym, subst}
use Rattle.std.specs.Option.{ForSome, option_and}
use Rattle.road_io.proofs.StillTold.{told_between}
use Rattle.desk_sight.specs.Images.{seen_of}
use Rattle.desk_sight.specs.Looks.{IsFitFor, IsOther, IsRefused}
use Rattle.desk_sight.proofs.LookDisk.{on_told, opened_on}
use Rattle.desk_sight.proofs.LookSteps.{looked_first}
use Rattle.desk_sight.proofs.looking.look.Given.{Over}
use Rattle.desk_sight.proofs.looking.look.Goals as goal
use Rattle.desk_sight.proofs.looking.look.Goals.{After-look_over}

pub returns-clause-spends : goal.returns-clause-spends
returns-clause-spends g c = looked_first g.D.Disk c.args.what c.args.disk.now c.image_of.new.disk c.look_over.new.disk c.image_of.ensures.moments c.look_over.ensures.spends

module _ (g : Over) (c : After-look_over g) where
  -- the content that was read is what the disk stated
  seen : ForSome (g.D.Disk.content c.image_of.new.disk) (λ x. c.deref.result.now ≡ seen_of x)
  seen x told = c.deref.ensures.value ∙ c.in_ok-image.ensures.image x told

  -- and it is what the disk still states
  still : (x : List ℕ) → option_and (g.D.Disk.content c.look_over.new.disk) (g.D.Disk.content c.args.disk.now) ≡ Some x → c.deref.result.now ≡ seen_of x
  still x told = seen x (told_between g.D.Disk c.args.disk.now c.image_of.new.disk c.look_over.new.disk _ (g.met.D.Disk.reads_image c.look_over.new.disk) (g.met.D.Disk.image_tells c.image_of.new.disk) c.image_of.ensures.content c.look_over.ensures.spends.moments x told)

pub returns-clause-strange : goal.returns-clause-strange
returns-clause-strange g c e is = on_told g.D.Disk c.args.disk.now c.image_of.new.disk c.look_over.new.disk c.deref.result.now (seen g (goal.at.returns-clause-strange g c).After-look_over) (λ (x : List ℕ). IsRefused c.args.what c.args.public x e) (c.look_over.ensures.strange e is)

pub returns-clause-strange_else : goal.returns-clause-strange_else
returns-clause-strange_else g c e x told it = c.look_over.ensures.strange_else e (subst (λ (y : List ℕ). IsRefused c.args.what c.args.public y e) (sym (still g (goal.at.returns-clause-strange_else g c).After-look_over x told)) it)

pub returns-clause-other_else : goal.returns-clause-other_else
returns-clause-other_else g c ne x told it = c.look_over.ensures.other_else ne (subst (λ (y : List ℕ). IsOther c.args.what c.args.public y) (sym (still g (goal.at.returns-clause-other_else g c).After-look_over x told)) it)

pub returns-clause-unspent : goal.returns-clause-unspent
returns-clause-unspent g c sight is none = on_told g.D.Disk c.args.disk.now c.image_of.new.disk c.look_over.new.disk c.deref.result.now (seen g (goal.at.returns-clause-unspent g c).After-look_over) (λ (x : List ℕ). IsFitFor c.args.what c.args.public x sight.sight) (c.look_over.ensures.unspent sight is none)

pub returns-clause-opened : goal.returns-clause-opened
returns-clause-opened g c sight key is link =
    opened_on g.D.Disk c.args.disk.now c.image_of.new.disk c.look_over.new.disk c.deref.result.now (seen g (goal.at.returns-clause-opened g c).After-look_over) c.args.what key c.image_of.ensures.content (g.met.D.Disk.image_tells c.image_of.new.disk) c.look_over.ensures.spends (c.look_over.ensures.opened sight key is link)

pub returns-clause-spent : goal.returns-clause-spent
returns-clause-spent g c sight slot version is header i now = let s = c.look_over.ensures.spent sight slot version is header i now in (s.0, c.image_of.ensures.content s.0 s.1, s.2)
