use Rattle.std.proofs.Common.{◌≡◌, ◌<◌, ◌+◌, List, ℕ, suc, length, arith, sym, ap, ◌∙◌}
use Rattle.desk_areas.specs.declared.area.Count.{Count}
use Rattle.desk_areas.specs.Area.{AreaView, area_in}
use Rattle.desk_areas.specs.Layout.{base_of}
use Rattle.desk_areas.proofs.Areas.{base_first}
use Rattle.desk_areas.proofs.Bases.{item_at, end_at}
use Rattle.desk_areas.proofs.finding.base_of.Goals as goal

pub loop-number-init : goal.loop-number-init
loop-number-init c = record {
  low = omega arith;
  based = λ x laid. sym (base_first x);
}

pub loop-number-preserved : goal.loop-number-preserved
loop-number-preserved c =
    let lt : c.loop-number.number < length c.args.areas.now = omega (arith, c.loop-number-test.true, c.requires.known) in
    let item : c.index-areas-number.result ≡ area_in c.args.areas.now c.loop-number.number = item_at c.args.areas.now c.loop-number.number c.index-areas-number.result lt c.index-areas-number.is in
    let size : length c.counts-counts.result.now ≡ length (area_in c.args.areas.now c.loop-number.number).counts =
    ap (λ (l : List Count). length l) c.counts-counts.ensures.counts ∙ ap (λ (a : AreaView). length a.counts) item in
    let more : c.loop-number.number + 1 ≡ suc c.loop-number.number = omega arith in
    record {
      low = omega (arith, c.loop-number.invariant.low, c.place_in-base.ensures.place, c.counts-counts.ensures.few);
      based = λ x laid. c.place_in-base.ensures.place
          ∙ end_at c.args.areas.now x c.loop-number.number c.loop-number.base (length c.counts-counts.result.now) laid lt (c.loop-number.invariant.based x laid) size
          ∙ ap (λ (n : ℕ). base_of x n) (sym more);
    }

pub returns-clause-base : goal.returns-clause-base
returns-clause-base c x laid =
    let end : c.loop-number.number ≡ c.args.area = omega (arith, c.loop-number-test.false, c.loop-number.auto.number-end) in
    c.loop-number.invariant.based x laid ∙ ap (λ (n : ℕ). base_of x n) end
