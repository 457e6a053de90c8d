use Rattle.std.proofs.Common.{◌≡◌, ◌+◌, ◌-◌, ◌*◌, ◌<◌, ◌≤◌, ℕ, suc, length, arith, true, sym, ap, ◌∙◌, subst}
use Rattle.desk_areas.specs.Layout.{slots_at, place_in, base_of, HasLink}
use Rattle.desk_areas.proofs.Areas.{base_first}
use Rattle.desk_sight.specs.Areas.{IsReached, IsPlain}
use Rattle.desk_sight.specs.Sights.{IsTold, IsUntold}
use Rattle.desk_sight.specs.Sights.IsUntold.{NotWhole}
use Rattle.desk_sight.proofs.SightSteps.{first_reached, whole_here, link_here, has_link, next_base, sight_plain, next_reached, ninth, sight_here}
use Rattle.desk_sight.proofs.sight.sight_found.Goals as goal

pub loop-area-init : goal.loop-area-init
loop-area-init c = record {
  reached = λ lt. first_reached c.args.image.now (c.is_some.ensures.0 c.if-not-is_some.false);
  untold = λ is. absurd (omega (arith, is));
  base = sym (base_first c.args.image.now);
  low = omega arith;
  told = c.none-told.ensures;
}

pub returns-then-slots-eq0 : goal.returns-then-slots-eq0
returns-then-slots-eq0 c = NotWhole c.loop-area.area (c.loop-area.invariant.reached c.loop-area-test.true) (λ whole.
    c.whole_slots-slots.ensures.none c.if-slots-eq0.true
    (subst (λ (b : ℕ). 0 < slots_at c.args.image.now b) (sym c.loop-area.invariant.base) whole.known)
    (subst (λ (b : ℕ). place_in b (slots_at c.args.image.now b) ≤ length c.args.image.now) (sym c.loop-area.invariant.base) whole.within))

pub returns-then-not-is_linked : goal.returns-then-not-is_linked
returns-then-not-is_linked c =
    let some : 0 < c.whole_slots-slots.result = omega (arith, c.if-slots-eq0.false) in
    let w = c.whole_slots-slots.ensures.some some in
    sight_here c.args.image.now c.loop-area.area c.in_ok-sight.sight (c.loop-area.invariant.reached c.loop-area-test.true) c.in_ok-sight.ensures.sight (λ has.
    let is : c.is_linked.result ≡ true = c.is_linked.ensures.1 (has_link c.args.image.now c.loop-area.area c.loop-area.base c.whole_slots-slots.result c.loop-area.invariant.base w.0 has) in
    let not = c.if-not-is_linked.true in cc)

pub loop-area-preserved : goal.loop-area-preserved
loop-area-preserved c =
    let some : 0 < c.whole_slots-slots.result = omega (arith, c.if-slots-eq0.false) in
    let w = c.whole_slots-slots.ensures.some some in
    let reached = c.loop-area.invariant.reached c.loop-area-test.true in
    let here = sight_plain c.args.image.now c.loop-area.area c.in_ok-sight.sight c.in_ok-sight.ensures.sight in
    let both = c.is_linked.ensures.0 c.if-not-is_linked.false in
    let link = link_here c.args.image.now c.loop-area.area c.loop-area.base c.whole_slots-slots.result c.loop-area.invariant.base w.0 some w.1 both.0 both.1 in
    let more : suc c.loop-area.area ≡ c.loop-area.area + 1 = omega arith in
    record {
      reached = λ few. subst (λ (n : ℕ). IsReached c.args.image.now n) more (next_reached c.args.image.now c.loop-area.area reached here link (omega (arith, few)));
      untold = λ is. ninth c.args.image.now c.loop-area.area (omega (arith, is)) reached here link;
      base = next_base c.args.image.now c.loop-area.area c.loop-area.base c.whole_slots-slots.result c.loop-area.invariant.base w.0 ∙ ap (λ (n : ℕ). base_of c.args.image.now n) more;
      low = omega (arith, c.loop-area.invariant.low, w.2);
      told = subst (λ (n : ℕ). IsTold c.args.image.now n (record { last = c.in_ok-sight.sight.last; greatest = c.in_ok-sight.sight.greatest })) more c.in_ok-sight.ensures.sight.told;
    }

pub returns : goal.returns
returns c = c.loop-area.invariant.untold (omega (arith, c.loop-area-test.false, c.loop-area.auto.area-end))
