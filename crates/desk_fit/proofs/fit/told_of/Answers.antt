use Rattle.std.proofs.Common.{◌≡◌, ◌≢◌, ℕ, List, true, subst, arith}
use Rattle.std.proofs.lemmas.Grind.{common_steps}
use Rattle.desk_sight.specs.Images.{seen_of}
use Rattle.desk_sight.specs.Looks.{IsFitFor}
use Rattle.desk_sight.specs.declared.looking.Use.{Use}
use Rattle.desk_sight.specs.declared.looking.Use.TheVariants.{Publish}
use Rattle.desk_fit.specs.Fits.{IsTold}
use Rattle.desk_fit.specs.Signers.{AwaitsSigner}
use Rattle.desk_fit.proofs.FitSteps.{fit_else, fit_map, none_waits}
use Rattle.desk_fit.proofs.fit.told_of.Goals as goal

pub returns-then-ne-clause-fits : goal.returns-then-ne-clause-fits
returns-then-ne-clause-fits g c = λ x told.
    let read = c.in_ok-image.ensures.image x told in
    let here : c.deref.result.now ≡ seen_of x = cc in
    let not : c.args.what ≢ Publish = grind (arith, common_steps) in
    let rested : c.is_rested.result ≡ true = grind (arith, common_steps) in
    let found = subst (λ (i : List ℕ). IsTold i c.in-Ok.sight) here c.in-Ok.ensures.told in
    fit_else c.args.what c.args.first (seen_of x) c.in-Ok.sight c.requires.key not found (λ next.
    none_waits c.args.first (seen_of x) c.args.seen c.in-Ok.sight (c.is_rested.ensures.next rested next) (λ it is nothing.
    subst (λ (w : Use). IsFitFor w c.args.first (seen_of x) it.sight) next (c.requires.unspent it is nothing x (c.in_ok-image.ensures.content x told))) found)

pub returns-clause-fits : goal.returns-clause-fits
returns-clause-fits g c = λ x told.
    let read = c.in_ok-image.ensures.image x told in
    let is : c.deref.result.now ≡ seen_of x = cc in
    let again : c.deref-2.result.now ≡ seen_of x = cc in
    let publish : c.args.what ≡ Publish = grind (arith, common_steps) in
    let rested : c.is_rested.result ≡ true = grind (arith, common_steps) in
    fit_map c.args.what c.args.first (seen_of x) c.in-Ok.sight c.signer_of-signer.result publish (record {
      told = subst (λ (i : List ℕ). IsTold i c.in-Ok.sight) is c.in-Ok.ensures.told;
      awaits = subst (λ (i : List ℕ). AwaitsSigner c.args.first i c.signer_of-signer.result) again c.signer_of-signer.ensures;
      unwaited = c.is_rested.ensures.map rested publish;
    })
