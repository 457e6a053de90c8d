use Rattle.std.proofs.Common.{◌≡◌, ℕ, List, Option, Some, Ok, IfOk, sym, subst, arith}
use Rattle.std.proofs.lemmas.Grind.{common_steps}
use Rattle.desk_sight.specs.Images.{seen_of}
use Rattle.desk_sight.specs.declared.looking.Use.{Use}
use Rattle.desk_fit.specs.Fits.{BeginsQuiet, BeginsStable, BeginsUnrefused, Looks}
use Rattle.desk_fit.proofs.FitSteps.{begins_stable, if_ok_by, key_stable, read_behind, spent_behind, told_behind, told_earlier, spent_of, quiet_of, unrefused_of}
use Rattle.desk_fit.proofs.fit.fit_desk.Goals as goal

pub told_of-requires-clause-unspent : goal.told_of-requires-clause-unspent
told_of-requires-clause-unspent g c it is nothing =
    let was = c.in-Ok.is in
    let seen : c.look.result ≡ Ok (Some it) = cc in
    c.look.ensures.unspent it seen nothing

pub returns-else-eq-clause-looked : goal.returns-else-eq-clause-looked
returns-else-eq-clause-looked g c =
    subst (λ (w : Option Use). Looks g.D.Disk w c.args.disk.now c.told_of.new.disk) (sym c.in-Some.is)
    (read_behind g.D.Disk c.in-Some.what c.args.disk.now c.look.new.disk c.told_of.new.disk c.look.ensures.spends c.told_of.ensures.stays)

pub returns-then-eq-clause-unrefused : goal.returns-then-eq-clause-unrefused
returns-then-eq-clause-unrefused g c = λ x told.
    subst (λ (w : Option Use). BeginsUnrefused w c.args.first (seen_of x)) (sym c.in-Some.is)
    (unrefused_of g.D.Disk c.in-Some.what c.args.first c.args.disk.now c.look.new.disk c.look.result c.in-Ok.seen c.in-Ok.is c.look.ensures.strange_else c.look.ensures.other_else x told)

pub returns-then-eq-clause-spent : goal.returns-then-eq-clause-spent
returns-then-eq-clause-spent g c =
    spent_of g.D.Disk c.in-Some.what c.args.first c.args.disk.now c.look.new.disk c.look.result c.in-Ok.seen c.spent_by.result c.in-Ok.is c.spent_by.ensures c.look.ensures.opened c.look.ensures.spent

pub returns-then-eq-clause-quiet : goal.returns-then-eq-clause-quiet
returns-then-eq-clause-quiet g c = λ x told.
    subst (λ (w : Option Use). BeginsQuiet w c.args.first c.spent_by.result (seen_of x)) (sym c.in-Some.is)
    (quiet_of g.D.Disk c.in-Some.what c.args.first c.args.disk.now c.look.new.disk c.look.result c.in-Ok.seen c.spent_by.result c.in-Ok.is c.spent_by.ensures c.look.ensures.untold c.look.ensures.unspent x told)

pub returns-else-eq-clause-unrefused : goal.returns-else-eq-clause-unrefused
returns-else-eq-clause-unrefused g c = if_ok_by c.told_of.result _ _ c.told_of.ensures.content (λ narrows.
    told_earlier g.D.Disk c.args.disk.now c.look.new.disk c.told_of.new.disk (λ (i : List ℕ). BeginsUnrefused c.args.what c.args.first (seen_of i)) narrows (λ x told.
    subst (λ (w : Option Use). BeginsUnrefused w c.args.first (seen_of x)) (sym c.in-Some.is)
    (unrefused_of g.D.Disk c.in-Some.what c.args.first c.args.disk.now c.look.new.disk c.look.result c.in-Ok.seen c.in-Ok.is c.look.ensures.strange_else c.look.ensures.other_else x told)))

pub returns-else-eq-clause-spent : goal.returns-else-eq-clause-spent
returns-else-eq-clause-spent g c = spent_behind g.D.Disk c.spent_by.result c.args.disk.now c.look.new.disk c.told_of.new.disk c.told_of.ensures.stays
    (spent_of g.D.Disk c.in-Some.what c.args.first c.args.disk.now c.look.new.disk c.look.result c.in-Ok.seen c.spent_by.result c.in-Ok.is c.spent_by.ensures c.look.ensures.opened c.look.ensures.spent)

pub returns-else-eq-clause-quiet : goal.returns-else-eq-clause-quiet
returns-else-eq-clause-quiet g c = if_ok_by c.told_of.result _ _ c.told_of.ensures.content (λ narrows.
    told_behind g.D.Disk c.look.new.disk c.told_of.new.disk (λ (i : List ℕ). BeginsQuiet c.args.what c.args.first c.spent_by.result (seen_of i)) narrows (λ x told.
    subst (λ (w : Option Use). BeginsQuiet w c.args.first c.spent_by.result (seen_of x)) (sym c.in-Some.is)
    (quiet_of g.D.Disk c.in-Some.what c.args.first c.args.disk.now c.look.new.disk c.look.result c.in-Ok.seen c.spent_by.result c.in-Ok.is c.spent_by.ensures c.look.ensures.untold c.look.ensures.unspent x told)))

pub returns-then-eq-clause-stable : goal.returns-then-eq-clause-stable
returns-then-eq-clause-stable g c =
    subst (λ (w : Option Use). BeginsStable g.D.Disk w c.look.new.disk) (sym c.in-Some.is)
    (key_stable g.D.Disk c.in-Some.what c.look.new.disk (grind (arith, common_steps)))

pub returns-else-eq-clause-stable : goal.returns-else-eq-clause-stable
returns-else-eq-clause-stable g c =
    subst (λ (w : Option Use). IfOk c.told_of.result (λ t. BeginsStable g.D.Disk w c.told_of.new.disk)) (sym c.in-Some.is)
    (begins_stable g.D.Disk c.told_of.result c.in-Some.what c.told_of.new.disk c.told_of.ensures.stable)
