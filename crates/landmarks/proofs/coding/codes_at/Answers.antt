use Rattle.std.proofs.Common.{◌++◌, ◌∷◌, [], ap, ◌∙◌}
use Rattle.landmarks.specs.Rows.{code_in}
use Rattle.landmarks.proofs.RowLaws.{map_more}
use Rattle.landmarks.proofs.coding.codes_at.Goals as goal

pub loop-row-preserved : goal.loop-row-preserved
loop-row-preserved c =
    map_more (code_in c.args.step c.args.place) c.args.rows.now c.loop-row.row-index c.row-item.result c.loop-row.codes.items c.push.new.list.items c.loop-row-test.true c.row-item.is c.loop-row.invariant
    (c.in_ok-push.ensures.items ∙ ap (λ x. c.loop-row.codes.items ++ x ∷ []) (c.code_at.ensures ∙ ap (code_in c.args.step c.args.place) c.as_slice.ensures))
