use Rattle.std.proofs.Common.{◌≡◌, ◌≤◌, ℕ, List, suc, Option, Some, MatchOption, inl, refl, sym, ap, ◌∙◌, arith, subst}
use Rattle.road_io.specs.Disk.{Stays}
use Rattle.road_io.proofs.MomentLaws.{nothing}
use Rattle.desk_areas.specs.Layout.{base_of}
use Rattle.desk_areas.proofs.Areas.{base_next}
use Rattle.desk_sight.specs.Areas.{IsWaitingLink}
use Rattle.desk_sight.specs.Looks.{HasClosedLink}
use Rattle.desk_sight.proofs.FrontSteps.{closed_in}
use Rattle.desk_sight.proofs.LinkSteps.{spends_nothing}
use Rattle.desk_sight.proofs.Exclusive.{at_most_seven}
use Rattle.desk_sight.proofs.Unlinked.{unlinked_some, unlinked_other, unlinked_key, unlinked_followed, unlinked_by}
use Rattle.desk_sight.proofs.looking.spend_link.Goals as goal

pub returns-in_default-clause-spends : goal.returns-in_default-clause-spends
returns-in_default-clause-spends g c = spends_nothing g.D.Disk c.args.disk.now c.args.disk.now (nothing g.D.Disk c.args.disk.now Stays (λ d now. refl))

pub is_made-requires : goal.is_made-requires
is_made-requires g c = let few = at_most_seven c.args.image.now c.requires.sight.area c.requires.sight.reached.is_open in let key = c.requires.sight.here.key in omega (arith, few, key)

pub returns-in_err-is_made-clause-spends : goal.returns-in_err-is_made-clause-spends
returns-in_err-is_made-clause-spends g c = spends_nothing g.D.Disk c.args.disk.now c.args.disk.now (nothing g.D.Disk c.args.disk.now Stays (λ d now. refl))

pub open_link-requires : goal.open_link-requires
open_link-requires g c =
    let area = c.requires.sight.area in
    let here = c.requires.sight.here in
    let end : base_of c.args.image.now (suc area) ≡ c.base_of.result = ap (λ (n : ℕ). base_of c.args.image.now n) (sym here.key) ∙ sym c.base_of.ensures.base in
    let waits : IsWaitingLink c.args.image.now area c.in-Some.link = subst (λ (o : Option (List ℕ)). MatchOption o ((key : List ℕ) → IsWaitingLink c.args.image.now area key → ⊥) (IsWaitingLink c.args.image.now area)) c.in-Some.is here.link in
    record {
      closed = λ x told. subst (λ (e : ℕ). HasClosedLink e x) end (closed_in c.args.image.now x area c.in-Some.link (c.requires.image x told) here.whole waits);
      long = let next = base_next c.args.image.now area in let known = here.whole.known in omega (arith, end, next, known);
    }

pub returns-then-sight-clause-spends : goal.returns-then-sight-clause-spends
returns-then-sight-clause-spends g c = spends_nothing g.D.Disk c.args.disk.now c.args.disk.now (nothing g.D.Disk c.args.disk.now Stays (λ d now. refl))

pub returns-clause-spends : goal.returns-clause-spends
returns-clause-spends g c = spends_nothing g.D.Disk c.args.disk.now c.args.disk.now (nothing g.D.Disk c.args.disk.now Stays (λ d now. refl))

pub returns-in_default-clause-unlinked : goal.returns-in_default-clause-unlinked
returns-in_default-clause-unlinked g c e it = absurd (unlinked_some c.args.image.now c.args.sight c.requires.sight e it c.in_default.is)

pub returns-then-branch-clause-unlinked : goal.returns-then-branch-clause-unlinked
returns-then-branch-clause-unlinked g c e it = absurd (unlinked_other c.args.image.now c.args.sight c.requires.sight e it c.in-Some.link c.in-Some.is (c.in_ok-is_made.ensures.0 c.if-branch.true))

pub returns-then-sight-clause-unlinked : goal.returns-then-sight-clause-unlinked
returns-then-sight-clause-unlinked g c e it = let same = unlinked_key c.args.image.now c.args.sight c.requires.sight e it in inl (cc)

pub returns-clause-unlinked : goal.returns-clause-unlinked
returns-clause-unlinked g c e it = absurd (unlinked_followed c.args.image.now c.args.sight c.requires.sight e it c.if-sight.false)
