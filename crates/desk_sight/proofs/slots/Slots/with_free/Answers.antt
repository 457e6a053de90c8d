use Rattle.desk_sight.proofs.SlotSteps.{first_free_more, later_free_more}
use Rattle.desk_sight.proofs.slots.Slots.with_free.Goals as goal

pub returns-then-self-number : goal.returns-then-self-number
returns-then-self-number c =
    first_free_more c.args.image.now c.args.base c.args.number c.requires.tail c.header_at-waiting.result c.header_at-waiting.ensures.some c.header_at-waiting.ensures.one c.args.self c.if-self-number.true c.requires.slots c.requires.free

pub returns-then-is_zero : goal.returns-then-is_zero
returns-then-is_zero c = later_free_more c.args.image.now c.args.base c.args.number c.requires.tail c.args.self c.if-self-number.false c.requires.slots c.requires.free (c.is_zero.ensures.0 c.if-is_zero.true)
