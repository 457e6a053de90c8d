use Rattle.std.proofs.Common.{refl, ap, ◌∙◌}
use Rattle.std.specs.declared.result.Result.TheVariants.{Err}
use Rattle.desk_areas.specs.Keys.{key_from}
use Rattle.owner_commands.proofs.SuccessionLemmas.{not_followed, next_line, next_on, links_kind, raises_kind, stays_followed}
use Rattle.owner_commands.proofs.StandingLemmas.{key_follows}
use Rattle.owner_commands.proofs.succeeding.make_next.Goals as goal

pub returns-in-Ok-clause-line : goal.returns-in-Ok-clause-line
returns-in-Ok-clause-line g c =
    rw c.line_of_next.ensures
    (next_line _ _ c.number.result c.args.secret.now _ _ c.in-Ok.desk c.in-Ok.desk.key c.number.ensures.is c.in-Ok.ensures.key refl refl c.in-Ok.ensures.refused_else)

pub returns-in-Ok-clause-made : goal.returns-in-Ok-clause-made
returns-in-Ok-clause-made g c =
    rw c.line_of_next.ensures
    (next_on g.D.Disk c.succeed.new.disk c.in-Ok.desk _ c.in-Ok.ensures.fits c.in-Ok.ensures.unspent (c.in-Ok.ensures.key ∙ ap (λ n. key_from n c.args.secret.now) c.number.ensures.is))

pub returns-in-Ok-clause-links : goal.returns-in-Ok-clause-links
returns-in-Ok-clause-links g c = links_kind g.D.Disk c.args.disk.now c.succeed.new.disk _ _ _ c.number.ensures.is c.in-Ok.ensures.moments

pub returns-in-Err-clause-links : goal.returns-in-Err-clause-links
returns-in-Err-clause-links g c = links_kind g.D.Disk c.args.disk.now c.succeed.new.disk _ _ _ c.number.ensures.is c.in-Err.ensures.moments

pub returns-in-Err-clause-refused : goal.returns-in-Err-clause-refused
returns-in-Err-clause-refused g c =
    rw c.not_followed.ensures
    (not_followed _ _ _ _ _ c.in-Err.e (λ other. c.in-Err.ensures.narrows refl (λ is. other cc)) c.in-Err.ensures.refused (λ is. c.in-Err.ensures.fault (ap (λ x. Err x) is)))

pub returns-in-Ok-clause-follows : goal.returns-in-Ok-clause-follows
returns-in-Ok-clause-follows g c =
    rw c.line_of_next.ensures
    (key_follows g.D.Disk c.in-Ok.desk c.succeed.new.disk c.in-Ok.ensures.fits _ c.in-Ok.ensures.follows (c.in-Ok.ensures.key ∙ ap (λ n. key_from n c.args.secret.now) c.number.ensures.is))

pub returns-in-Err-clause-untouched : goal.returns-in-Err-clause-untouched
returns-in-Err-clause-untouched g c =
    rw c.not_followed.ensures
    (stays_followed g.D.Disk c.args.disk.now c.succeed.new.disk c.in-Err.e (λ other. c.in-Err.ensures.untouched refl (λ is. other cc)))

pub returns-in-Ok-clause-raises : goal.returns-in-Ok-clause-raises
returns-in-Ok-clause-raises g c = raises_kind g.D.Disk c.args.disk.now c.succeed.new.disk _ _ _ c.number.ensures.is c.in-Ok.ensures.raises

pub returns-in-Err-clause-raises : goal.returns-in-Err-clause-raises
returns-in-Err-clause-raises g c = raises_kind g.D.Disk c.args.disk.now c.succeed.new.disk _ _ _ c.number.ensures.is c.in-Err.ensures.raises
