use Rattle.std.proofs.Common.{◌≡◌}
use Rattle.desk_sight.proofs.SlotSteps.{bare_spent_more, signed_spent_more}
use Rattle.desk_sight.proofs.slots.Slots.with_spent.Goals as goal

pub returns-in-None : goal.returns-in-None
returns-in-None c = bare_spent_more c.args.image.now c.args.base c.args.number c.requires.tail c.args.self c.if-self-number.false c.requires.slots c.requires.spent (λ signed has. let no = c.in-None.ensures.one signed has in cc)

pub returns-in-Some : goal.returns-in-Some
returns-in-Some c = signed_spent_more c.args.image.now c.args.base c.args.number c.requires.tail c.args.self c.if-self-number.false c.requires.slots c.requires.spent c.in-Some.signed c.greater.result c.in-Some.ensures.some c.in-Some.ensures.one c.greater.ensures
