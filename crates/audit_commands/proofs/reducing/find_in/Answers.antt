use Rattle.std.proofs.Common.{take, ap, ◌∙◌}
use Rattle.std.specs.Option.{option_map}
use Rattle.key_desk.specs.declared.desk.Desk.{Desk}
use Rattle.key_desk.specs.Desk.{key_of}
use Rattle.audit_commands.proofs.ReduceLemmas.{told_slot}
use Rattle.audit_commands.proofs.reducing.find_in.Goals as goal

pub returns-in-Ok-tell-clause-told : goal.returns-in-Ok-tell-clause-told
returns-in-Ok-tell-clause-told g c =
    told_slot g.D.Disk c.spent_of.new.disk c.args.area (key_of c.args.desk.now c.args.area) c.in-Ok-area.key.now (option_map (λ n. take n c.spent_of.new.into) c.in-Ok.found) _ c.args.text.now c.args.sig.now _ _
    (c.in-Ok-area.ensures.key ∙ ap (λ (d : Desk). key_of d c.args.area) c.in-Ok.ensures.desk) c.front.ensures c.in-Ok.ensures.spent c.in-Ok-tell.ensures.told
