use Rattle.std.proofs.Common.{◌≡◌, sym}
use Rattle.desk_sight.proofs.ShortBlocks.{short_slots}
use Rattle.desk_sight.proofs.sight.block_slots.Goals as goal

pub returns-then-image-base-clause-slots : goal.returns-then-image-base-clause-slots
returns-then-image-base-clause-slots c = sym (short_slots c.args.image.now c.args.base c.if-image-base.true)
