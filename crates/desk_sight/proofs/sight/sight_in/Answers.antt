use Rattle.desk_sight.proofs.SightSteps.{wrong_slot, sight_all}
use Rattle.desk_sight.proofs.sight.sight_in.Goals as goal

pub returns-in-Err-clause-strange : goal.returns-in-Err-clause-strange
returns-in-Err-clause-strange c =
    wrong_slot c.args.image.now c.args.area c.args.base c.args.slots c.requires.base c.requires.slots (c.is_plain_block.ensures.0 c.if-not-is_plain_block.false) c.in-Err.strange c.in-Err.ensures

pub returns-clause-sight : goal.returns-clause-sight
returns-clause-sight c =
    sight_all c.args.image.now c.args.area c.args.base c.args.slots c.requires.base c.requires.slots c.requires.some c.requires.within (c.is_plain_block.ensures.0 c.if-not-is_plain_block.false) c.in-Ok.found c.in-Ok.ensures c.with-told.result c.with-told.ensures
    c.waiting_link.result c.waiting_link.ensures.some c.waiting_link.ensures.none c.is_some.result c.is_some.ensures
