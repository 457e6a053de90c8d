use Rattle.std.proofs.Common.{arith, subst, sym}
use Rattle.desk_areas.specs.Keys.{key_from}
use Rattle.desk_areas.specs.Blank.{IsBlankArea}
use Rattle.desk_areas.proofs.Blocks.{blank_written}
use Rattle.desk_areas.proofs.OnOks.{on_ok}
use Rattle.desk_areas.proofs.making.put_block.Goals as goal

pub returns-clause-blank : goal.returns-clause-blank
returns-clause-blank g c = on_ok c.store.result _ _ c.store.ensures.stored (λ stored i now.
    let d = stored i now in
    subst (IsBlankArea (key_from c.args.kind c.args.secret.now) c.args.base) (sym d.2)
    (blank_written c.args.base c.args.kind c.args.secret.now c.block_of-block.result d.0 (omega arith) c.told-secret c.block_of-block.ensures (c.requires.clear d.0 d.1)))
