use Rattle.std.proofs.Common.{◌≡◌, List, ℕ, Some, length, arith, sym, ◌∙◌, subst}
use Rattle.desk_areas.specs.declared.area.Count.{Count}
use Rattle.desk_areas.specs.Layout.{slots_of, kind_at, secret_at}
use Rattle.desk_areas.specs.Reading.{HasStray, HasGates}
use Rattle.desk_areas.proofs.Moments.{stays_twice, stays_thrice}
use Rattle.desk_areas.proofs.ReadLemmas.{stray_bad, area_read}
use Rattle.desk_areas.proofs.reading.read_area.Given.{Over}
use Rattle.desk_areas.proofs.reading.read_area.Goals as goal
use Rattle.desk_areas.proofs.reading.read_area.Goals.{After-has_stray}

module _ (g : Over) (c : After-has_stray g) (x : List ℕ) (told : g.D.Disk.content c.has_stray.new.disk ≡ Some x) where
  told_gates : g.D.Disk.content c.read_gates.new.disk ≡ Some x
  told_gates = c.has_stray.ensures.content x told

  told_block : g.D.Disk.content c.read_block.new.disk ≡ Some x
  told_block = c.read_gates.ensures.content x told_gates

  told_first : g.D.Disk.content c.args.disk.now ≡ Some x
  told_first = c.read_block.ensures.content x told_block

  kind_is : c.in_ok-kind.field-0.kind ≡ kind_at x c.args.base
  kind_is = c.in_ok-kind.ensures.kind x told_block

  secret_is : c.in_ok-kind.field-0.secret ≡ secret_at x c.args.base
  secret_is = c.in_ok-kind.ensures.secret x told_block

  size : length c.in_ok-counts.counts.items ≡ slots_of c.in_ok-kind.field-0.kind
  size = c.in_ok-counts.ensures.size ∙ c.slots_of-slots.ensures.slots

  gates : HasGates c.in_ok-counts.counts.items c.args.base x
  gates = c.in_ok-counts.ensures.gates x told_gates

pub returns-then-branch-clause-bad : goal.returns-then-branch-clause-bad
returns-then-branch-clause-bad g c _ x told =
    let at = (goal.at.returns-then-branch-clause-bad g c).After-has_stray in
    let stray = c.in_ok-has_stray.ensures.yes c.if-branch.true x told in
    stray_bad x c.args.base c.in_ok-kind.field-0.kind c.in_ok-counts.counts.items (kind_is g at x told) (size g at x told) (gates g at x told) (subst (λ (l : List Count). HasStray l c.args.base x) c.deref.ensures.value stray)

pub returns-clause-area : goal.returns-clause-area
returns-clause-area g c x told =
    let at = (goal.at.returns-clause-area g c).After-has_stray in
    area_read x c.args.base c.in_ok-kind.field-0.kind c.in_ok-kind.field-0.secret c.from_parts.result c.in_ok-counts.counts.items c.in_ok-key.key c.from_parts.ensures c.in_ok-key.ensures.key (kind_is g at x told) (secret_is g at x told)
    (omega (arith, c.slots_of-slots.ensures.slots, c.if-slots-eq0.false)) (omega (arith, c.place_in.ensures.place, c.if-len-place_in.false, c.slots_of-slots.ensures.slots, c.requires.len x (told_first g at x told))) (gates g at x told)
    (λ stray. c.in_ok-has_stray.ensures.no c.if-branch.false x told (subst (λ (l : List Count). HasStray l c.args.base x) (sym c.deref.ensures.value) stray))

pub returns-in_err-counts-clause-moments : goal.returns-in_err-counts-clause-moments
returns-in_err-counts-clause-moments g c = stays_twice g.D.Disk _ _ _ c.read_block.ensures.moments c.read_gates.ensures.moments

pub returns-in_err-has_stray-clause-moments : goal.returns-in_err-has_stray-clause-moments
returns-in_err-has_stray-clause-moments g c = stays_thrice g.D.Disk _ _ _ _ c.read_block.ensures.moments c.read_gates.ensures.moments c.has_stray.ensures.moments

pub returns-then-branch-clause-moments : goal.returns-then-branch-clause-moments
returns-then-branch-clause-moments g c = stays_thrice g.D.Disk _ _ _ _ c.read_block.ensures.moments c.read_gates.ensures.moments c.has_stray.ensures.moments

pub returns-in_err-key-clause-moments : goal.returns-in_err-key-clause-moments
returns-in_err-key-clause-moments g c = stays_thrice g.D.Disk _ _ _ _ c.read_block.ensures.moments c.read_gates.ensures.moments c.has_stray.ensures.moments

pub returns-clause-moments : goal.returns-clause-moments
returns-clause-moments g c = stays_thrice g.D.Disk _ _ _ _ c.read_block.ensures.moments c.read_gates.ensures.moments c.has_stray.ensures.moments
