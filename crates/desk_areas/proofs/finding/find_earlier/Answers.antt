use Rattle.std.proofs.Common.{◌≡◌, ◌+◌, ◌<◌, List, ℕ, suc, Some, length, arith, refl, inl, inr, sym, ◌∙◌, ap, subst}
use Rattle.std.proofs.lemmas.Bool.{cases_lt}
use Rattle.road_io.specs.Disk.{Stays}
use Rattle.road_io.proofs.MomentLaws.{nothing, continued}
use Rattle.desk_areas.specs.declared.area.Count.{Count}
use Rattle.desk_areas.specs.Area.{AreaView, area_in}
use Rattle.desk_areas.specs.Layout.{place_in, base_of}
use Rattle.desk_areas.specs.Reading.{FindsIn}
use Rattle.desk_areas.proofs.Areas.{base_first}
use Rattle.desk_areas.proofs.Bases.{item_at, end_at}
use Rattle.desk_areas.proofs.finding.find_earlier.Given.{Over}
use Rattle.desk_areas.proofs.finding.find_earlier.Goals as goal
use Rattle.desk_areas.proofs.finding.find_earlier.Goals.{After-counts-counts}

-- one more area in which nothing is found
none_more : (areas : List AreaView) (text c : List ℕ) (i base : ℕ) (item : AreaView) → item ≡ area_in areas i → base ≡ base_of c i → (FindsIn item.counts base text c → ⊥)
    → ((a : ℕ) → a < i → FindsIn (area_in areas a).counts (base_of c a) text c → ⊥) → (a : ℕ) → a < i + 1 → FindsIn (area_in areas a).counts (base_of c a) text c → ⊥
none_more areas text c i base item item_is base_is none before a lt finds = elim (cases_lt a i) [
  | inl below ↦ before a below finds
  | inr ge ↦
      let is : a ≡ i = omega arith in
      none (subst (λ (x : AreaView). FindsIn x.counts base text c) (sym item_is) (subst (λ (b : ℕ). FindsIn (area_in areas i).counts b text c) (sym base_is) (subst (λ (x : ℕ). FindsIn (area_in areas x).counts (base_of c x) text c) is finds)))
]

pub loop-area-init : goal.loop-area-init
loop-area-init g c = record {
  content = λ x told. told;
  moments = nothing g.D.Disk c.args.disk.now Stays (λ d now. refl);
  faults = refl;
  low = omega arith;
  based = λ x told. sym (base_first x);
  none = λ x told a lt. absurd (omega arith);
}

module _ (g : Over) (c : After-counts-counts g) where
  lt : c.loop-area.area-index < length c.args.areas.now
  lt = c.loop-area-test.true

  item_is : c.area-item.result ≡ area_in c.args.areas.now c.loop-area.area-index
  item_is = item_at c.args.areas.now c.loop-area.area-index c.area-item.result lt c.area-item.is

  size_is : length c.counts-counts.result.now ≡ length (area_in c.args.areas.now c.loop-area.area-index).counts
  size_is = ap (λ (l : List Count). length l) c.counts-counts.ensures.counts ∙ ap (λ (a : AreaView). length a.counts) item_is

  here : (x : List ℕ) → g.D.Disk.content c.loop-area.disk ≡ Some x → place_in c.loop-area.base (length c.counts-counts.result.now) ≡ base_of x (suc c.loop-area.area-index)
  here x told = end_at c.args.areas.now x c.loop-area.area-index c.loop-area.base (length c.counts-counts.result.now) (c.requires.laid_out x (c.loop-area.invariant.content x told)) lt (c.loop-area.invariant.based x told) size_is

pub find_text-requires-clause-within : goal.find_text-requires-clause-within
find_text-requires-clause-within g c x told =
    let at = (goal.at.find_text-requires-clause-within g c).After-counts-counts in
    let was : g.D.Disk.content c.args.disk.now ≡ Some x = c.loop-area.invariant.content x told in
    let whole = (c.requires.laid_out x was).whole c.loop-area.area-index (lt g at) in
    omega (arith, whole, here g at x told)

pub loop-area-preserved : goal.loop-area-preserved
loop-area-preserved g c =
    let at = (goal.at.loop-area-preserved g c).After-counts-counts in
    let more : c.loop-area.area-index + 1 ≡ suc c.loop-area.area-index = omega arith in
    record {
      content = λ x told. c.loop-area.invariant.content x (c.find_text.ensures.content x told);
      moments = continued g.D.Disk c.args.disk.now c.loop-area.disk c.find_text.new.disk Stays Stays Stays c.loop-area.invariant.moments c.find_text.ensures.moments (λ d i now h. h) (λ d e i now_d now_e h k. k ∙ h);
      faults = c.in_ok-find_text.ensures.kept ∙ c.loop-area.invariant.faults;
      low = omega (arith, c.loop-area.invariant.low, c.place_in-base.ensures.place, c.counts-counts.ensures.few);
      based = λ x told. c.place_in-base.ensures.place ∙ here g at x (c.find_text.ensures.content x told) ∙ ap (λ (n : ℕ). base_of x n) (sym more);
      none = λ x told. none_more c.args.areas.now c.args.text.now x c.loop-area.area-index c.loop-area.base c.area-item.result (item_is g at) (c.loop-area.invariant.based x (c.find_text.ensures.content x told))
          (λ finds. c.in_ok-find_text.ensures.no c.if-branch.false x told (subst (λ (l : List Count). FindsIn l c.loop-area.base c.args.text.now x) (sym c.counts-counts.ensures.counts) finds))
          (c.loop-area.invariant.none x (c.find_text.ensures.content x told));
    }
