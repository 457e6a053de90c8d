use denote.Enum.Bare.{same_false}
use Rattle.std.proofs.Common.{◌≡◌, Ok, Err, Some, refl, sym, ap}
use Rattle.desk_sight.specs.contracts.looking.Use.{the_type}
use Rattle.desk_sight.specs.declared.looking.Use.TheVariants.{Key}
use Rattle.desk_sight.specs.Sights.{IsSight, IsUntold}
use Rattle.desk_sight.specs.declared.looking.Unfit.{Unfit}
use Rattle.desk_sight.specs.declared.looking.Unfit.TheVariants as unfit
use Rattle.desk_sight.specs.declared.looking.Spending.{Spending}
use Rattle.desk_sight.specs.declared.looking.Spending.TheVariants.{Header}
use Rattle.desk_sight.proofs.LookAnswers.{same_error, refused_strange, refused_unlinked, untold_by, untold_unrefused, no_answer, retyped, sightless, sighted}
use Rattle.desk_sight.proofs.LookSteps.{idle}
use Rattle.desk_sight.proofs.looking.look_over.Goals as goal

pub returns-then-eq-clause-spends : goal.returns-then-eq-clause-spends
returns-then-eq-clause-spends g c = idle g.D.Disk c.args.what c.args.disk.now

pub returns-in-Err-clause-spends : goal.returns-in-Err-clause-spends
returns-in-Err-clause-spends g c = idle g.D.Disk c.args.what c.args.disk.now

pub returns-in-Err-clause-strange : goal.returns-in-Err-clause-strange
returns-in-Err-clause-strange g c e is = (refl, refused_strange c.args.public.now c.args.image.now e c.args.what (same_false the_type c.args.what Key (sym c.if-eq.ensures)) (c.in-Err.ensures.strange e (same_error c.in-Err.unfit (unfit.Strange e) is)))

pub returns-in-Err-clause-strange_else : goal.returns-in-Err-clause-strange_else
returns-in-Err-clause-strange_else g c e it =
    sightless c.args.what c.args.public.now c.args.image.now e c.in-Err.unfit (same_false the_type c.args.what Key (sym c.if-eq.ensures)) (λ is. c.in-Err.ensures.no_block (ap (λ (u : Unfit). Err u) is)) (λ is. c.in-Err.ensures.no_disk (ap (λ (u : Unfit). Err u) is)) (λ is. c.in-Err.ensures.other (ap (λ (u : Unfit). Err u) is))
    (λ o is. let s = c.in-Err.ensures.strange o (ap (λ (u : Unfit). Err u) is) in s.1) (λ own is. c.in-Err.ensures.strange_else e own is) it

pub returns-in-Ok-None-clause-spends : goal.returns-in-Ok-None-clause-spends
returns-in-Ok-None-clause-spends g c = idle g.D.Disk c.args.what c.args.disk.now

pub returns-in-Ok-None-clause-strange_else : goal.returns-in-Ok-None-clause-strange_else
returns-in-Ok-None-clause-strange_else g c e it = absurd (untold_unrefused c.args.what c.args.public.now c.args.image.now e (same_false the_type c.args.what Key (sym c.if-eq.ensures)) (rw c.in-Ok-None.field-0-is at c.in-Ok-None.ensures.found) it)

pub returns-in-Ok-None-clause-untold : goal.returns-in-Ok-None-clause-untold
returns-in-Ok-None-clause-untold g c is = (refl, untold_by c.args.what c.args.public.now c.args.image.now (same_false the_type c.args.what Key (sym c.if-eq.ensures)) c.in-Ok-None.ensures.not_other (rw c.in-Ok-None.field-0-is at c.in-Ok-None.ensures.found))

pub returns-in-Err-spend-clause-strange : goal.returns-in-Err-spend-clause-strange
returns-in-Err-spend-clause-strange g c e is = let s = c.in-Err-spend.ensures.strange e (same_error c.in-Err-spend.unspent (unfit.Strange e) is) in (s.0, refused_unlinked c.args.public.now c.args.image.now e c.args.what s.1 c.in-Ok-Some.ensures.not_other s.2)

pub returns-in-Err-spend-clause-strange_else : goal.returns-in-Err-spend-clause-strange_else
returns-in-Err-spend-clause-strange_else g c e it =
    sighted c.args.what c.args.public.now c.args.image.now e c.in-Ok-Some.sight (Err c.in-Err-spend.unspent) (same_false the_type c.args.what Key (sym c.if-eq.ensures)) (rw c.in-Ok-Some.field-0-is at c.in-Ok-Some.ensures.found) (λ succeed is. retyped (unfit.Strange e) c.in-Err-spend.unspent (c.in-Err-spend.ensures.unlinked e succeed is)) it

pub returns-in-Ok-clause-strange_else : goal.returns-in-Ok-clause-strange_else
returns-in-Ok-clause-strange_else g c e it =
    sighted c.args.what c.args.public.now c.args.image.now e c.in-Ok-Some.sight (Ok (Some c.seen_after.result)) (same_false the_type c.args.what Key (sym c.if-eq.ensures)) (rw c.in-Ok-Some.field-0-is at c.in-Ok-Some.ensures.found) (λ succeed is. absurd (no_answer (unfit.Strange e) c.in-Ok.spending (c.in-Ok.ensures.unlinked e succeed is))) it

pub returns-in-Ok-clause-spent : goal.returns-in-Ok-clause-spent
returns-in-Ok-clause-spent g c seen slot version is header i now =
    let told = c.seen_after.ensures.spending in
    let same : c.in-Ok.spending ≡ Header slot version = cc in
    c.in-Ok.ensures.spent slot version (ap (λ (s : Spending). Ok s) same) i now
