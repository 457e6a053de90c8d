use Rattle.std.proofs.Common.{◌≡◌, ◌⊎◌, List, ℕ, Result, Ok, Err, IfErr, refl, sym, ap, ◌∙◌, subst, inl, inr}
use Rattle.road_io.proofs.MomentLaws.{nothing}
use Rattle.key_desk.specs.declared.succeed.SucceedError.{SucceedError}
use Rattle.key_desk.specs.declared.succeed.SucceedError.TheVariants.{DiskFault, Memory}
use Rattle.key_desk.specs.declared.desk.Desk.{Desk}
use Rattle.key_desk.specs.Succession.{IsDeskCalledFor, CanFollow, DeskRefuses}
use Rattle.desk_areas.proofs.OnOks.{on_ok}
use Rattle.key_desk.proofs.Refusals.{none_refused, one_refusal, called, called_else, can_succeed, same_error}
use Rattle.key_desk.proofs.desk.Desk.pass_on.Goals as goal
use Rattle.octet_text.specs.Want.{no_memory}

-- the only refusals of a call are always allowed
only_called : {X : Type 0} (desk : Desk) (name : List ℕ) (r : Result X SucceedError) → IfErr r (λ e. (e ≡ DiskFault) ⊎ (e ≡ Memory no_memory)) → IfErr r (IsDeskCalledFor desk name)
only_called desk name (Ok x) h = tt
only_called desk name (Err e) h = called_else desk name e h

pub returns-in-Err-clause-refused : goal.returns-in-Err-clause-refused
returns-in-Err-clause-refused g c = subst (λ (n : List ℕ). IsDeskCalledFor c.args.self n c.in-Err.e) c.array_at-name.ensures (called c.args.self c.array_at-name.result c.in-Err.e c.in-Err.ensures.refused)

pub returns-in-Err-clause-refused_else : goal.returns-in-Err-clause-refused_else
returns-in-Err-clause-refused_else g c f h =
    ap (λ x. Err x) (one_refusal c.args.self c.array_at-name.result c.in-Err.e f c.in-Err.ensures.refused (subst (λ (n : List ℕ). DeskRefuses c.args.self n f) (sym c.array_at-name.ensures) h))

pub returns-in-Err-clause-fault : goal.returns-in-Err-clause-fault
returns-in-Err-clause-fault g c is = absurd (subst (λ (e : SucceedError). DeskRefuses c.args.self c.array_at-name.result e) (same_error c.in-Err.e DiskFault is) c.in-Err.ensures.refused)

pub returns-in-Err-clause-moments : goal.returns-in-Err-clause-moments
returns-in-Err-clause-moments g c = nothing g.D.Disk c.args.disk.now _ (λ d now. record { keeps = λ s t signed. signed; adds = λ s t signed. inl signed })

pub add_area-requires-clause-can : goal.add_area-requires-clause-can
add_area-requires-clause-can g c =
    can_succeed c.args.self c.args.kind c.args.secret.now c.requires.opened (subst (λ (n : List ℕ). CanFollow c.args.self n) c.array_at-name.ensures c.in-Ok.ensures.follows) c.requires.kind c.told-secret

pub returns-in-Ok-clause-refused : goal.returns-in-Ok-clause-refused
returns-in-Ok-clause-refused g c = only_called c.args.self _ c.add_area.result c.add_area.ensures.only

pub returns-in-Ok-clause-refused_else : goal.returns-in-Ok-clause-refused_else
returns-in-Ok-clause-refused_else g c f h = absurd (none_refused c.args.self c.array_at-name.result c.in-Ok.ensures.follows f (subst (λ (n : List ℕ). DeskRefuses c.args.self n f) (sym c.array_at-name.ensures) h))

pub returns-in-Err-clause-keys : goal.returns-in-Err-clause-keys
returns-in-Err-clause-keys g c = nothing g.D.Disk c.args.disk.now _ (λ d now. let areas = c.requires.fits.areas d now in areas.keys)

pub returns-in-Ok-clause-free : goal.returns-in-Ok-clause-free
returns-in-Ok-clause-free g c = on_ok c.add_area.result _ _ c.add_area.ensures.counted (λ counted. c.in-Ok.ensures.follows.free)

pub returns-in-Err-clause-raises : goal.returns-in-Err-clause-raises
returns-in-Err-clause-raises g c = nothing g.D.Disk c.args.disk.now _ (λ d now. inl refl)
