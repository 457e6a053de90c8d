use Rattle.std.proofs.Common.{◌≡◌, ◌≢◌, ◌+◌, ◌*◌, ◌<◌, ◌≤◌, List, ℕ, suc, [], ◌∷◌, ◌++◌, length, length-append, Option, Some, None, Ok, Err, IfSome, arith, refl, sym, ◌∙◌, ap, subst, rules}
use Rattle.road_io.specs.Disk.{Stays}
use Rattle.road_io.specs.Moments.{Image, EachImage, AtEachMoment}
use Rattle.road_io.proofs.MomentLaws.{nothing, continued, at_end}
use Rattle.desk_areas.specs.declared.area.Count.{Count}
use Rattle.desk_areas.specs.Area.{AreaView, area_in}
use Rattle.key_desk.specs.declared.desk.Desk.{Desk}
use Rattle.desk_areas.specs.Layout.{slots_of, place_in}
use Rattle.key_desk.specs.Desk.{Fits, key_of}
use Rattle.desk_areas.specs.Reading.{HasRead, IsLastLink}
use Rattle.key_desk.proofs.ReadFits.{IsEither, IsWhole, desk_of, read_fits}
use Rattle.key_desk.proofs.Finding.{some_is}
use Rattle.desk_areas.specs.Calls.{Called, area_calls}
use Rattle.desk_areas.proofs.CallLemmas.{called_then}
use Rattle.key_desk.specs.Calls.{areas_calls}
use Rattle.key_desk.proofs.CallLemmas.{areas_called}
use Rattle.key_desk.proofs.ReadMore.{none_read, more_read, wholes_more, names_more}
use Rattle.key_desk.proofs.desk.Desk.read_areas.Given.{Over}
use Rattle.key_desk.proofs.desk.Desk.read_areas.Goals as goal
use Rattle.key_desk.proofs.desk.Desk.read_areas.Goals.{After-read_next}

ok_apart : {A E : Type 0} (a : A) (e : E) → Ok a ≡ Err e → ⊥
ok_apart a e same = cc

pub loop-round-init : goal.loop-round-init
loop-round-init g c =
    let none : c.new-earlier.result.items ≡ [] = search rules in
    let size : length c.new-earlier.result.items ≡ 0 = ap (λ (l : List AreaView). length l) none in
    let no_calls : areas_calls c.new-earlier.result.items ≡ 0 = ap (λ (l : List AreaView). areas_calls l) none in
    record {
      content = λ x told. told;
      moments = nothing g.D.Disk c.args.disk.now Stays (λ d now. refl);
      faults = refl;
      called = λ low. omega (arith, low, no_calls);
      calls = omega arith;
      count = size;
      few = omega arith;
      low = omega arith;
      read = λ x told. none_read c.new-earlier.result.items x none (c.requires.open x told);
      wholes = λ a lt. absurd (omega (arith, lt, size));
      names = λ a b lt le. absurd (omega (arith, le, size));
    }

pub read_next-requires-clause-len : goal.read_next-requires-clause-len
read_next-requires-clause-len g c x told = c.requires.len x (c.loop-round.invariant.content x told)

pub read_next-requires-clause-read : goal.read_next-requires-clause-read
read_next-requires-clause-read g c x told = subst (λ (l : List AreaView). HasRead l c.loop-round.base c.loop-round.named x) (sym c.deref.ensures.value) (c.loop-round.invariant.read x told)

pub read_next-requires-clause-low : goal.read_next-requires-clause-low
read_next-requires-clause-low g c = omega (arith, c.loop-round.invariant.low, c.loop-round.invariant.few)

pub read_next-requires-clause-few : goal.read_next-requires-clause-few
read_next-requires-clause-few g c = omega (arith, c.loop-round.invariant.count, c.loop-round.invariant.few, ap (λ (l : List AreaView). length l) c.deref.ensures.value)

pub with_current-requires-clause-low : goal.with_current-requires-clause-low
with_current-requires-clause-low g c = omega (arith, c.loop-round.invariant.low, c.loop-round.invariant.count)

pub with_current-requires-clause-few : goal.with_current-requires-clause-few
with_current-requires-clause-few g c = omega (arith, c.loop-round.invariant.count, c.loop-round.invariant.few)

pub place_in-base-requires-clause-base : goal.place_in-base-requires-clause-base
place_in-base-requires-clause-base g c = omega (arith, c.loop-round.invariant.low, c.loop-round.invariant.few)

module _ (g : Over) (c : After-read_next g) where
  all : AtEachMoment g.D.Disk c.args.disk.now c.read_next.new.disk Stays
  all = continued g.D.Disk c.args.disk.now c.loop-round.disk c.read_next.new.disk Stays Stays Stays c.loop-round.invariant.moments c.read_next.ensures.moments (λ d i now h. h) (λ d e i now_d now_e h k. k ∙ h)

  one : EachImage g.D.Disk c.read_next.new.disk (λ i. g.D.Disk.content c.read_next.new.disk ≡ Some i)
  one i now =
      let e = at_end g.D.Disk c.args.disk.now c.read_next.new.disk Stays all i now in
      let was = subst (λ (y : List ℕ). g.D.Disk.content c.args.disk.now ≡ Some y) (sym e.2) (c.requires.one e.0 e.1) in
      let told = g.met.D.Disk.image_tells c.read_next.new.disk i now in
      let first = c.loop-round.invariant.content told.0 (c.read_next.ensures.content told.0 told.1) in
      subst (λ (y : List ℕ). g.D.Disk.content c.read_next.new.disk ≡ Some y) (some_is (g.D.Disk.content c.args.disk.now) told.0 i was first) told.1

pub returns-in_err-area-clause-moments : goal.returns-in_err-area-clause-moments
returns-in_err-area-clause-moments g c = all g (goal.at.returns-in_err-area-clause-moments g c).After-read_next

pub returns-in_err-push-in-Some-clause-moments : goal.returns-in_err-push-in-Some-clause-moments
returns-in_err-push-in-Some-clause-moments g c = all g (goal.at.returns-in_err-push-in-Some-clause-moments g c).After-read_next

pub returns-in-None-clause-moments : goal.returns-in-None-clause-moments
returns-in-None-clause-moments g c = all g (goal.at.returns-in-None-clause-moments g c).After-read_next

pub returns-in-None-clause-content : goal.returns-in-None-clause-content
returns-in-None-clause-content g c x told = c.loop-round.invariant.content x (c.read_next.ensures.content x told)

pub returns-in-None-clause-faults : goal.returns-in-None-clause-faults
returns-in-None-clause-faults g c = omega (arith, c.loop-round.invariant.faults, c.read_next.ensures.faults)

-- the values read, whatever the disk states
whole_of : (area : AreaView) → (0 < slots_of area.key.kind) × (length area.counts ≡ slots_of area.key.kind) → length area.key.i ≡ 16 → IsEither area → IsWhole area
whole_of area known named either = record { known = known.0; sized = known.1; named = named; either = either }

last_names : (l earlier : List AreaView) (area : AreaView) → l ≡ earlier → ((a : ℕ) → a < length l → (area_in l a).key.i ≢ area.key.i) → (a : ℕ) → a < length earlier → (area_in earlier a).key.i ≢ area.key.i
last_names l earlier area is = subst (λ (x : List AreaView). (a : ℕ) → a < length x → (area_in x a).key.i ≢ area.key.i) is

pub returns-in-None-clause-fits : goal.returns-in-None-clause-fits
returns-in-None-clause-fits g c =
    subst (λ (v : Desk). Fits g.D.Disk v c.read_next.new.disk) (sym c.with_current.ensures)
    (read_fits c.loop-round.earlier.items c.loop-round.base c.in_ok-area.field-0.area (omega (arith, c.loop-round.invariant.count, c.loop-round.invariant.few)) c.loop-round.invariant.wholes
    (whole_of c.in_ok-area.field-0.area c.in_ok-area.ensures.known c.in_ok-area.ensures.i c.in_ok-area.ensures.either) c.loop-round.invariant.names
    (last_names c.deref.result.now c.loop-round.earlier.items c.in_ok-area.field-0.area c.deref.ensures.value c.in_ok-area.ensures.distinct)
    g.D.Disk c.read_next.new.disk (g.D.Disk.content c.read_next.new.disk) c.loop-round.named (one g (goal.at.returns-in-None-clause-fits g c).After-read_next)
    (λ x told. c.loop-round.invariant.read x (c.read_next.ensures.content x told)) c.in_ok-area.ensures.area c.in_ok-area.ensures.named
    (λ x told. subst (λ (o : Option (List ℕ)). IsLastLink c.in_ok-area.field-0.area.counts c.loop-round.base o x) c.in-None.is (c.in_ok-area.ensures.link x told)))

pub returns-in-None-clause-counted : goal.returns-in-None-clause-counted
returns-in-None-clause-counted g c =
    subst (λ (v : Desk). Called (areas_calls v.earlier + area_calls v.counts) (g.D.Disk.calls c.args.disk.now) (g.D.Disk.calls c.read_next.new.disk)) (sym c.with_current.ensures)
    (called_then _ _ _ _ _ c.loop-round.invariant.called c.in_ok-area.ensures.counted)

pub returns-clause-bad_block : goal.returns-clause-bad_block
returns-clause-bad_block g c _ x told = absurd (omega (arith, c.loop-round.invariant.few, c.loop-round-test.false))

pub loop-round-preserved : goal.loop-round-preserved
loop-round-preserved g c =
    let at = (goal.at.loop-round-preserved g c).After-read_next in
    let items = c.in_ok-push-in-Some.ensures.items in
    let seven : length c.deref.result.now < 7 = subst (λ (o : Option (List ℕ)). IfSome o (λ key. length c.deref.result.now < 7)) c.in-Some.is c.in_ok-area.ensures.eighth in
    let same : length c.deref.result.now ≡ length c.loop-round.earlier.items = ap (λ (l : List AreaView). length l) c.deref.ensures.value in
    let longer : length c.push.new.list.items ≡ length c.loop-round.earlier.items + 1 = ap (λ (l : List AreaView). length l) items ∙ length-append c.loop-round.earlier.items _ in
    let place : c.place_in-base.result ≡ place_in c.loop-round.base (length c.in_ok-area.field-0.area.counts) = c.place_in-base.ensures.place ∙ ap (λ (l : List Count). place_in c.loop-round.base (length l)) c.counts.ensures.counts in
    let whole = whole_of c.in_ok-area.field-0.area c.in_ok-area.ensures.known c.in_ok-area.ensures.i c.in_ok-area.ensures.either in
    record {
      content = λ x told. c.loop-round.invariant.content x (c.read_next.ensures.content x told);
      moments = all g at;
      faults = c.in_ok-area.ensures.kept (ok_apart _ _) ∙ c.loop-round.invariant.faults;
      called = areas_called c.loop-round.earlier.items c.push.new.list.items c.in_ok-area.field-0.area _ _ _ items c.loop-round.invariant.called c.in_ok-area.ensures.counted;
      calls = omega (arith, c.loop-round.invariant.calls, c.read_next.ensures.few);
      count = longer ∙ ap (λ (n : ℕ). n + 1) c.loop-round.invariant.count;
      few = omega (arith, seven, same, c.loop-round.invariant.count);
      low = omega (arith, c.loop-round.invariant.low, c.place_in-base.ensures.place, c.counts.ensures.few);
      read = λ x told.
          subst (λ (l : List AreaView). HasRead l c.place_in-base.result (Some c.in-Some.key) x) (sym items)
          (subst (λ (b : ℕ). HasRead (c.loop-round.earlier.items ++ c.in_ok-area.field-0.area ∷ []) b (Some c.in-Some.key) x) (sym place)
          (more_read c.loop-round.earlier.items c.in_ok-area.field-0.area x c.loop-round.base c.loop-round.named (c.loop-round.invariant.read x (c.read_next.ensures.content x told)) (c.in_ok-area.ensures.area x told) c.in_ok-area.ensures.known.1 c.in_ok-area.ensures.named c.in-Some.key
          (subst (λ (o : Option (List ℕ)). IsLastLink c.in_ok-area.field-0.area.counts c.loop-round.base o x) c.in-Some.is (c.in_ok-area.ensures.link x told))
          (omega (arith, seven, same))));
      wholes = subst (λ (l : List AreaView). (a : ℕ) → a < length l → IsWhole (area_in l a)) (sym items) (wholes_more c.loop-round.earlier.items c.in_ok-area.field-0.area c.loop-round.invariant.wholes whole);
      names = subst (λ (l : List AreaView). (a b : ℕ) → a < b → b < length l → (area_in l a).key.i ≢ (area_in l b).key.i) (sym items)
          (names_more c.loop-round.earlier.items c.in_ok-area.field-0.area c.loop-round.invariant.names
          (last_names c.deref.result.now c.loop-round.earlier.items c.in_ok-area.field-0.area c.deref.ensures.value c.in_ok-area.ensures.distinct));
    }

pub returns-in_err-area-clause-content : goal.returns-in_err-area-clause-content
returns-in_err-area-clause-content g c x told = c.loop-round.invariant.content x (c.read_next.ensures.content x told)

pub returns-in_err-push-in-Some-clause-content : goal.returns-in_err-push-in-Some-clause-content
returns-in_err-push-in-Some-clause-content g c x told = c.loop-round.invariant.content x (c.read_next.ensures.content x told)

pub returns-in_err-area-clause-few : goal.returns-in_err-area-clause-few
returns-in_err-area-clause-few g c = omega (arith, c.loop-round.invariant.few, c.read_next.ensures.few, c.loop-round-test.true)

pub returns-in_err-push-in-Some-clause-few : goal.returns-in_err-push-in-Some-clause-few
returns-in_err-push-in-Some-clause-few g c = omega (arith, c.loop-round.invariant.few, c.read_next.ensures.few, c.loop-round-test.true)

pub returns-in-None-clause-few : goal.returns-in-None-clause-few
returns-in-None-clause-few g c = omega (arith, c.loop-round.invariant.few, c.read_next.ensures.few, c.loop-round-test.true)
