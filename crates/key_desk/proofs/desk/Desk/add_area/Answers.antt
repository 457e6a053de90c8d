use Rattle.std.proofs.Common.{◌≡◌, ◌<◌, ◌≤◌, List, ℕ, length, replicate, arith, ap, refl, sym, ◌∙◌, subst, inl}
use Rattle.std.proofs.lemmas.Grind.{common_steps}
use Rattle.road_io.proofs.MomentLaws.{nothing}
use Rattle.lms_tree.specs.Signatures.{KeyOf}
use Rattle.desk_areas.specs.declared.area.Count.TheVariants
use Rattle.key_desk.specs.declared.desk.Desk.{Desk}
use Rattle.desk_areas.specs.Layout.{slots_of}
use Rattle.desk_areas.specs.Keys.{key_from}
use Rattle.key_desk.specs.Desk.{Fits}
use Rattle.key_desk.specs.Succession.{next_desk}
use Rattle.desk_areas.proofs.KeyLemmas.{some_slots}
use Rattle.key_desk.proofs.Raises.{raises_next}
use Rattle.key_desk.proofs.Successors.{long_on}
use Rattle.key_desk.proofs.Unspent.{unspent_next}
use Rattle.key_desk.proofs.desk.Desk.add_area.Goals as goal

pub build_key-requires : goal.build_key-requires
build_key-requires g c = some_slots c.args.kind c.requires.kind

pub into_next-requires-clause-some : goal.into_next-requires-clause-some
into_next-requires-clause-some g c = c.requires.fits.sound.known

pub into_next-requires-clause-few : goal.into_next-requires-clause-few
into_next-requires-clause-few g c = c.requires.can.few

pub into_next-requires-clause-counts : goal.into_next-requires-clause-counts
into_next-requires-clause-counts g c =
    let all : c.in_ok-counts.counts.items ≡ replicate (slots_of c.args.kind) TheVariants.Free = grind (arith, common_steps) in
    all ∙ ap (λ (k : KeyOf). replicate (slots_of k.kind) TheVariants.Free) (sym c.in-Ok.ensures.key)

pub returns-in_err-counts-clause-moments : goal.returns-in_err-counts-clause-moments
returns-in_err-counts-clause-moments g c = nothing g.D.Disk c.args.disk.now _ (λ d now. record { keeps = λ s t signed. signed; adds = λ s t signed. inl signed })

pub returns-in_err-next-clause-moments : goal.returns-in_err-next-clause-moments
returns-in_err-next-clause-moments g c = nothing g.D.Disk c.args.disk.now _ (λ d now. record { keeps = λ s t signed. signed; adds = λ s t signed. inl signed })

pub raise-requires-clause-within : goal.raise-requires-clause-within
raise-requires-clause-within g c i now = omega (arith, long_on c.args.self i (c.requires.fits.areas i now), c.base-base.ensures.base, c.counts.ensures.sized)

pub returns-in_err-raise-clause-moments : goal.returns-in_err-raise-clause-moments
returns-in_err-raise-clause-moments g c =
    c.raise.ensures.moments c.args.self c.requires.fits c.requires.can (sym c.base-base.ensures.base) (sym c.counts.ensures.sized)

pub returns-clause-moments : goal.returns-clause-moments
returns-clause-moments g c = c.raise.ensures.moments c.args.self c.requires.fits c.requires.can (sym c.base-base.ensures.base) (sym c.counts.ensures.sized)

pub returns-clause-signed : goal.returns-clause-signed
returns-clause-signed g c = c.in_ok-raise.ensures.signed c.args.self c.requires.fits c.requires.can (sym c.base-base.ensures.base) (sym c.counts.ensures.sized)

pub returns-clause-fits : goal.returns-clause-fits
returns-clause-fits g c =
    let next : c.in_ok-next.next ≡ next_desk c.args.self (key_from c.args.kind c.args.secret.now) = c.in_ok-next.ensures.next ∙ ap (λ (k : KeyOf). next_desk c.args.self k) c.in-Ok.ensures.key in
    subst (λ (v : Desk). Fits g.D.Disk v c.raise.new.disk) (sym next) (c.in_ok-raise.ensures.fits c.args.self c.requires.fits c.requires.can (sym c.base-base.ensures.base) (sym c.counts.ensures.sized))

pub returns-in-Err-Memory-clause-keys : goal.returns-in-Err-Memory-clause-keys
returns-in-Err-Memory-clause-keys g c = nothing g.D.Disk c.args.disk.now _ (λ d now. let areas = c.requires.fits.areas d now in areas.keys)

pub returns-in_err-zeros-clause-keys : goal.returns-in_err-zeros-clause-keys
returns-in_err-zeros-clause-keys g c = nothing g.D.Disk c.args.disk.now _ (λ d now. let areas = c.requires.fits.areas d now in areas.keys)

pub returns-in_err-counts-clause-keys : goal.returns-in_err-counts-clause-keys
returns-in_err-counts-clause-keys g c = nothing g.D.Disk c.args.disk.now _ (λ d now. let areas = c.requires.fits.areas d now in areas.keys)

pub returns-in_err-next-clause-keys : goal.returns-in_err-next-clause-keys
returns-in_err-next-clause-keys g c = nothing g.D.Disk c.args.disk.now _ (λ d now. let areas = c.requires.fits.areas d now in areas.keys)

pub returns-in_err-raise-clause-keys : goal.returns-in_err-raise-clause-keys
returns-in_err-raise-clause-keys g c =
    c.raise.ensures.keys c.args.self c.requires.fits c.requires.can (sym c.base-base.ensures.base) (sym c.counts.ensures.sized)

pub returns-clause-keys : goal.returns-clause-keys
returns-clause-keys g c = c.raise.ensures.keys c.args.self c.requires.fits c.requires.can (sym c.base-base.ensures.base) (sym c.counts.ensures.sized)

pub returns-clause-unspent : goal.returns-clause-unspent
returns-clause-unspent g c =
    let next : c.in_ok-next.next ≡ next_desk c.args.self (key_from c.args.kind c.args.secret.now) = c.in_ok-next.ensures.next ∙ ap (λ (k : KeyOf). next_desk c.args.self k) c.in-Ok.ensures.key in
    unspent_next g.D.Disk c.args.self (key_from c.args.kind c.args.secret.now) c.raise.new.disk c.in_ok-next.next _ _ next (sym c.base-base.ensures.base) (sym c.counts.ensures.sized) c.in_ok-raise.ensures.unspent

pub returns-in-Err-Memory-clause-raises : goal.returns-in-Err-Memory-clause-raises
returns-in-Err-Memory-clause-raises g c = nothing g.D.Disk c.args.disk.now _ (λ d now. inl refl)

pub returns-in_err-zeros-clause-raises : goal.returns-in_err-zeros-clause-raises
returns-in_err-zeros-clause-raises g c = nothing g.D.Disk c.args.disk.now _ (λ d now. inl refl)

pub returns-in_err-counts-clause-raises : goal.returns-in_err-counts-clause-raises
returns-in_err-counts-clause-raises g c = nothing g.D.Disk c.args.disk.now _ (λ d now. inl refl)

pub returns-in_err-next-clause-raises : goal.returns-in_err-next-clause-raises
returns-in_err-next-clause-raises g c = nothing g.D.Disk c.args.disk.now _ (λ d now. inl refl)

pub returns-in_err-raise-clause-raises : goal.returns-in_err-raise-clause-raises
returns-in_err-raise-clause-raises g c =
    raises_next g.D.Disk c.args.self (key_from c.args.kind c.args.secret.now) c.args.disk.now c.raise.new.disk _ _ c.requires.fits c.requires.can (sym c.base-base.ensures.base) (sym c.counts.ensures.sized) c.raise.ensures.raises

pub returns-clause-raises : goal.returns-clause-raises
returns-clause-raises g c =
    raises_next g.D.Disk c.args.self (key_from c.args.kind c.args.secret.now) c.args.disk.now c.raise.new.disk _ _ c.requires.fits c.requires.can (sym c.base-base.ensures.base) (sym c.counts.ensures.sized) c.raise.ensures.raises
