use Rattle.std.proofs.Common.{◌+◌, length, subst, sym}
use Rattle.desk_areas.specs.Blank.{IsZero}
use Rattle.desk_areas.proofs.Blocks.{cleared}
use Rattle.desk_areas.proofs.OnOks.{on_ok}
use Rattle.desk_areas.proofs.making.zero_all.Goals as goal

pub returns-clause-cleared : goal.returns-clause-cleared
returns-clause-cleared g c = on_ok c.put.result _ _ c.put.ensures.stored (λ stored i now.
    let d = stored i now in
    let shut = c.requires.shut d.0 d.1 in
    subst (IsZero 0 (length c.args.zeros.now + 1)) (sym d.2) (cleared c.args.zeros.now d.0 c.requires.zeros shut.1 shut.0))
