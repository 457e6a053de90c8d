use Rattle.desk_sight.proofs.ToldSteps.{told_last, told_greatest}
use Rattle.desk_sight.proofs.sight.Told.with.Goals as goal

pub returns : goal.returns
returns c = record {
  last = told_last c.args.image.now c.args.area c.args.base c.args.count c.args.slots c.requires.base c.requires.count c.requires.slots c.args.self.last c.args.slots.last c.later.result c.requires.slots.last c.requires.told.last c.later.ensures;
  greatest = told_greatest c.args.image.now c.args.area c.args.base c.args.count c.args.slots c.requires.base c.requires.count c.requires.slots c.args.self.greatest c.args.slots.greatest c.greatest.result c.requires.slots.greatest c.requires.told.greatest c.greatest.ensures;
}
