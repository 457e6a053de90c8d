use Rattle.std.proofs.Common.{◌≡◌, ℕ, ◌+◌, ◌≤◌, Option, None, Some, IsSome, arith}
use Rattle.road_search.specs.declared.label.Label.{Label}
use Rattle.road_search.specs.Marking.{settled_in, open_in}
use Rattle.road_search.specs.Labelling.{Settles}
use Rattle.road_search.proofs.Found.{found, way}
use Rattle.road_map.proofs.IdLaws.{at_some}
use Rattle.road_search.proofs.Turns.{count, tally-most, Grown-below, lacking_turn, first_turn, unsettled, mark_turn, Turned, last_turn, at_none}
use Rattle.road_search.proofs.label_setting.search_in.Goals as goal

not_some : (o : Option Label) → o ≡ None → IsSome o → ⊥
not_some None e h = cc
not_some (Some l) e h = cc

pub loop-queue-init : goal.loop-queue-init
loop-queue-init g c = record {
  front = c.in_ok-begin.ensures.front;
  searched = first_turn (g.G.Ground.ways c.args.ground.now) c.args.from c.args.limit (g.T.Marks.mark c.begin.new.marks) c.in_ok-begin.ensures.begun;
  lacking = λ n h. not_some (settled_in (g.T.Marks.mark c.begin.new.marks) n) (unsettled c.args.from c.args.limit (g.T.Marks.mark c.begin.new.marks) c.in_ok-begin.ensures.begun n) h.0;
}

pub leave-requires-clause-below : goal.leave-requires-clause-below
leave-requires-clause-below g c =
    let s : Settles c.in-Some.id c.in-Some.label (g.T.Marks.mark c.loop-queue.marks) (g.T.Marks.mark c.settle_least.new.marks) = at_some (λ (e : ℕ × Label). Settles e.0 e.1 (g.T.Marks.mark c.loop-queue.marks) (g.T.Marks.mark c.settle_least.new.marks)) c.in_ok-id.field-0 (c.in-Some.id, c.in-Some.label) c.in-Some.is c.in_ok-id.ensures.settles in
    Grown-below _ _ _ _ _ _ (c.loop-queue.invariant.searched.open_by _ _ s.was)

pub leave-requires-clause-room : goal.leave-requires-clause-room
leave-requires-clause-room g c =
    let s : Settles c.in-Some.id c.in-Some.label (g.T.Marks.mark c.loop-queue.marks) (g.T.Marks.mark c.settle_least.new.marks) = at_some (λ (e : ℕ × Label). Settles e.0 e.1 (g.T.Marks.mark c.loop-queue.marks) (g.T.Marks.mark c.settle_least.new.marks)) c.in_ok-id.field-0 (c.in-Some.id, c.in-Some.label) c.in-Some.is c.in_ok-id.ensures.settles in
    let few : count (g.T.Marks.mark c.loop-queue.marks) ≤ 4294967296 = tally-most _ 4294967296 in
    omega (arith, few, c.loop-queue.invariant.searched.few_open _ _ s.was)

pub loop-queue-preserved : goal.loop-queue-preserved
loop-queue-preserved g c =
    let s : Settles c.in-Some.id c.in-Some.label (g.T.Marks.mark c.loop-queue.marks) (g.T.Marks.mark c.settle_least.new.marks) = at_some (λ (e : ℕ × Label). Settles e.0 e.1 (g.T.Marks.mark c.loop-queue.marks) (g.T.Marks.mark c.settle_least.new.marks)) c.in_ok-id.field-0 (c.in-Some.id, c.in-Some.label) c.in-Some.is c.in_ok-id.ensures.settles in
    let t : Turned (g.G.Ground.ways c.args.ground.now) c.args.from c.args.limit c.in-Some.id (g.T.Marks.mark c.loop-queue.marks) (g.T.Marks.mark c.leave.new.marks) = mark_turn c.in-Some.id c.in-Some.label c.loop-queue.invariant.searched s c.in_ok-has.ensures.fits c.in_ok-has.ensures.offered in
    record {
      front = c.in_ok-has.ensures.front;
      searched = t.searched;
      lacking = rw (c.least_lacking-lacking.ensures, c.in_ok-has.ensures.entry) (lacking_turn (g.G.Ground.ways c.args.ground.now) c.in-Some.id (settled_in (g.T.Marks.mark c.loop-queue.marks)) (settled_in (g.T.Marks.mark c.leave.new.marks)) c.loop-queue.lacking t.here t.others c.loop-queue.invariant.lacking t.kept);
    }

pub loop-queue-smaller : goal.loop-queue-smaller
loop-queue-smaller g c =
    let s : Settles c.in-Some.id c.in-Some.label (g.T.Marks.mark c.loop-queue.marks) (g.T.Marks.mark c.settle_least.new.marks) = at_some (λ (e : ℕ × Label). Settles e.0 e.1 (g.T.Marks.mark c.loop-queue.marks) (g.T.Marks.mark c.settle_least.new.marks)) c.in_ok-id.field-0 (c.in-Some.id, c.in-Some.label) c.in-Some.is c.in_ok-id.ensures.settles in
    let t : Turned (g.G.Ground.ways c.args.ground.now) c.args.from c.args.limit c.in-Some.id (g.T.Marks.mark c.loop-queue.marks) (g.T.Marks.mark c.leave.new.marks) = mark_turn c.in-Some.id c.in-Some.label c.loop-queue.invariant.searched s c.in_ok-has.ensures.fits c.in_ok-has.ensures.offered in
    let few : count (g.T.Marks.mark c.leave.new.marks) ≤ 4294967296 = tally-most _ 4294967296 in
    let longer : count (g.T.Marks.mark c.leave.new.marks) ≡ count (g.T.Marks.mark c.loop-queue.marks) + 1 = t.longer in
    omega (arith, few, longer)

pub returns-clause-lengths : goal.returns-clause-lengths
returns-clause-lengths g c =
    let none : (v : ℕ) → open_in (g.T.Marks.mark c.settle_least.new.marks) v ≡ None = at_none c.in_ok-id.field-0 c.in_default.is c.in_ok-id.ensures.none in
    let same : (v : ℕ) → g.T.Marks.mark c.settle_least.new.marks v ≡ g.T.Marks.mark c.loop-queue.marks v = at_none c.in_ok-id.field-0 c.in_default.is c.in_ok-id.ensures.same in
    found (g.met.G.Ground.lets_shorter c.args.ground.now) (last_turn (g.T.Marks.mark c.loop-queue.marks) (g.T.Marks.mark c.settle_least.new.marks) c.loop-queue.invariant.searched same none) none

pub returns-clause-routes : goal.returns-clause-routes
returns-clause-routes g c =
    let none : (v : ℕ) → open_in (g.T.Marks.mark c.settle_least.new.marks) v ≡ None = at_none c.in_ok-id.field-0 c.in_default.is c.in_ok-id.ensures.none in
    let same : (v : ℕ) → g.T.Marks.mark c.settle_least.new.marks v ≡ g.T.Marks.mark c.loop-queue.marks v = at_none c.in_ok-id.field-0 c.in_default.is c.in_ok-id.ensures.same in
    way (g.met.G.Ground.lets_shorter c.args.ground.now) (last_turn (g.T.Marks.mark c.loop-queue.marks) (g.T.Marks.mark c.settle_least.new.marks) c.loop-queue.invariant.searched same none) none
