use Rattle.std.proofs.Common.{◌≡◌, ℕ, ◌+◌, ◌≤◌, None, arith, sym, ◌∙◌, ap, inl, refl, nat_eq}
use Rattle.std.specs.Option.{option_map}
use Rattle.road_search.specs.declared.label.Label.{Label}
use Rattle.road_search.specs.Marking.{open_in, label_in}
use Rattle.road_search.specs.Labelling.{Settles}
use Rattle.road_map.proofs.IdLaws.{at_some}
use Rattle.road_search.proofs.Turns.{count, tally-most, first_turn, mark_turn, Turned, at_none}
use Rattle.road_search.proofs.Cutting.{AtEnd, settles_labels, near_lengths, near_way, end_kept, end_found, bounded_turn, still_low, cut_length, same_labels, not_open}
use Rattle.road_search.proofs.label_setting.search_to.Goals as goal

pub loop-queue-init : goal.loop-queue-init
loop-queue-init g c = record {
  front = c.in_ok-begin.ensures.front;
  searched = first_turn (g.G.Ground.ways c.args.ground.now) c.args.from c.args.limit (g.T.Marks.mark c.begin.new.marks) c.in_ok-begin.ensures.begun;
  low = omega arith;
  bounded = inl refl;
}

pub leave-requires-clause-room : goal.leave-requires-clause-room
leave-requires-clause-room g c =
    let s : Settles c.in-Some.id c.in-Some.label (g.T.Marks.mark c.loop-queue.marks) (g.T.Marks.mark c.settle_least.new.marks) = at_some (λ (e : ℕ × Label). Settles e.0 e.1 (g.T.Marks.mark c.loop-queue.marks) (g.T.Marks.mark c.settle_least.new.marks)) c.in_ok-id.field-0 (c.in-Some.id, c.in-Some.label) c.in-Some.is c.in_ok-id.ensures.settles in
    let few : count (g.T.Marks.mark c.loop-queue.marks) ≤ 4294967296 = tally-most _ 4294967296 in
    omega (arith, few, c.loop-queue.invariant.searched.few_open _ _ s.was)

pub loop-queue-preserved : goal.loop-queue-preserved
loop-queue-preserved g c =
    let s : Settles c.in-Some.id c.in-Some.label (g.T.Marks.mark c.loop-queue.marks) (g.T.Marks.mark c.settle_least.new.marks) = at_some (λ (e : ℕ × Label). Settles e.0 e.1 (g.T.Marks.mark c.loop-queue.marks) (g.T.Marks.mark c.settle_least.new.marks)) c.in_ok-id.field-0 (c.in-Some.id, c.in-Some.label) c.in-Some.is c.in_ok-id.ensures.settles in
    let t : Turned (g.G.Ground.ways c.args.ground.now) c.args.from c.args.limit c.in-Some.id (g.T.Marks.mark c.loop-queue.marks) (g.T.Marks.mark c.leave.new.marks) = mark_turn c.in-Some.id c.in-Some.label c.loop-queue.invariant.searched s c.in_ok-_has.ensures.fits c.in_ok-_has.ensures.offered in
    record {
      front = c.in_ok-_has.ensures.front;
      searched = t.searched;
      low = rw c.lowered-bound.ensures (still_low (nat_eq c.in-Some.id c.args.to) c.loop-queue.bound c.in-Some.label.length c.args.limit (omega (arith, c.if-label-bound.false)) c.loop-queue.invariant.low);
      bounded = rw c.lowered-bound.ensures (bounded_turn c.loop-queue.bound c.args.to c.in-Some.id c.in-Some.label t s c.in_ok-_has.ensures.offered.settled c.loop-queue.invariant.bounded);
    }

pub loop-queue-smaller : goal.loop-queue-smaller
loop-queue-smaller g c =
    let s : Settles c.in-Some.id c.in-Some.label (g.T.Marks.mark c.loop-queue.marks) (g.T.Marks.mark c.settle_least.new.marks) = at_some (λ (e : ℕ × Label). Settles e.0 e.1 (g.T.Marks.mark c.loop-queue.marks) (g.T.Marks.mark c.settle_least.new.marks)) c.in_ok-id.field-0 (c.in-Some.id, c.in-Some.label) c.in-Some.is c.in_ok-id.ensures.settles in
    let t : Turned (g.G.Ground.ways c.args.ground.now) c.args.from c.args.limit c.in-Some.id (g.T.Marks.mark c.loop-queue.marks) (g.T.Marks.mark c.leave.new.marks) = mark_turn c.in-Some.id c.in-Some.label c.loop-queue.invariant.searched s c.in_ok-_has.ensures.fits c.in_ok-_has.ensures.offered in
    let few : count (g.T.Marks.mark c.leave.new.marks) ≤ 4294967296 = tally-most _ 4294967296 in
    let longer : count (g.T.Marks.mark c.leave.new.marks) ≡ count (g.T.Marks.mark c.loop-queue.marks) + 1 = t.longer in
    omega (arith, few, longer)

pub returns-then-label-bound-clause-lengths : goal.returns-then-label-bound-clause-lengths
returns-then-label-bound-clause-lengths g c =
    let s : Settles c.in-Some.id c.in-Some.label (g.T.Marks.mark c.loop-queue.marks) (g.T.Marks.mark c.settle_least.new.marks) = at_some (λ (e : ℕ × Label). Settles e.0 e.1 (g.T.Marks.mark c.loop-queue.marks) (g.T.Marks.mark c.settle_least.new.marks)) c.in_ok-id.field-0 (c.in-Some.id, c.in-Some.label) c.in-Some.is c.in_ok-id.ensures.settles in
    let e : AtEnd c.loop-queue.bound (g.T.Marks.mark c.loop-queue.marks) (g.T.Marks.mark c.settle_least.new.marks) = record { far = λ v l o. omega (arith, c.if-label-bound.true, s.least v l o); labels = settles_labels c.in-Some.id c.in-Some.label (g.T.Marks.mark c.loop-queue.marks) (g.T.Marks.mark c.settle_least.new.marks) s } in
    near_lengths c.loop-queue.bound (g.T.Marks.mark c.loop-queue.marks) (g.T.Marks.mark c.settle_least.new.marks) c.loop-queue.invariant.searched c.loop-queue.invariant.low e (g.met.G.Ground.lets_shorter c.args.ground.now)

pub returns-then-label-bound-clause-route : goal.returns-then-label-bound-clause-route
returns-then-label-bound-clause-route g c =
    let s : Settles c.in-Some.id c.in-Some.label (g.T.Marks.mark c.loop-queue.marks) (g.T.Marks.mark c.settle_least.new.marks) = at_some (λ (e : ℕ × Label). Settles e.0 e.1 (g.T.Marks.mark c.loop-queue.marks) (g.T.Marks.mark c.settle_least.new.marks)) c.in_ok-id.field-0 (c.in-Some.id, c.in-Some.label) c.in-Some.is c.in_ok-id.ensures.settles in
    let e : AtEnd c.loop-queue.bound (g.T.Marks.mark c.loop-queue.marks) (g.T.Marks.mark c.settle_least.new.marks) = record { far = λ v l o. omega (arith, c.if-label-bound.true, s.least v l o); labels = settles_labels c.in-Some.id c.in-Some.label (g.T.Marks.mark c.loop-queue.marks) (g.T.Marks.mark c.settle_least.new.marks) s } in
    near_way c.loop-queue.bound (g.T.Marks.mark c.loop-queue.marks) (g.T.Marks.mark c.settle_least.new.marks) c.loop-queue.invariant.searched c.loop-queue.invariant.low e (g.met.G.Ground.lets_shorter c.args.ground.now) c.args.to (end_kept c.loop-queue.bound c.args.to (g.T.Marks.mark c.loop-queue.marks) (g.T.Marks.mark c.settle_least.new.marks) c.loop-queue.invariant.searched e c.loop-queue.invariant.bounded)

pub returns-then-label-bound-clause-end : goal.returns-then-label-bound-clause-end
returns-then-label-bound-clause-end g c =
    let s : Settles c.in-Some.id c.in-Some.label (g.T.Marks.mark c.loop-queue.marks) (g.T.Marks.mark c.settle_least.new.marks) = at_some (λ (e : ℕ × Label). Settles e.0 e.1 (g.T.Marks.mark c.loop-queue.marks) (g.T.Marks.mark c.settle_least.new.marks)) c.in_ok-id.field-0 (c.in-Some.id, c.in-Some.label) c.in-Some.is c.in_ok-id.ensures.settles in
    let e : AtEnd c.loop-queue.bound (g.T.Marks.mark c.loop-queue.marks) (g.T.Marks.mark c.settle_least.new.marks) = record { far = λ v l o. omega (arith, c.if-label-bound.true, s.least v l o); labels = settles_labels c.in-Some.id c.in-Some.label (g.T.Marks.mark c.loop-queue.marks) (g.T.Marks.mark c.settle_least.new.marks) s } in
    sym (cut_length c.loop-queue.bound (label_in (g.T.Marks.mark c.settle_least.new.marks) c.args.to)) ∙ ap (λ o. option_map (λ (l : Label). l.length) o) (end_kept c.loop-queue.bound c.args.to (g.T.Marks.mark c.loop-queue.marks) (g.T.Marks.mark c.settle_least.new.marks) c.loop-queue.invariant.searched e c.loop-queue.invariant.bounded)

pub returns-then-label-bound-clause-whole : goal.returns-then-label-bound-clause-whole
returns-then-label-bound-clause-whole g c =
    let s : Settles c.in-Some.id c.in-Some.label (g.T.Marks.mark c.loop-queue.marks) (g.T.Marks.mark c.settle_least.new.marks) = at_some (λ (e : ℕ × Label). Settles e.0 e.1 (g.T.Marks.mark c.loop-queue.marks) (g.T.Marks.mark c.settle_least.new.marks)) c.in_ok-id.field-0 (c.in-Some.id, c.in-Some.label) c.in-Some.is c.in_ok-id.ensures.settles in
    let e : AtEnd c.loop-queue.bound (g.T.Marks.mark c.loop-queue.marks) (g.T.Marks.mark c.settle_least.new.marks) = record { far = λ v l o. omega (arith, c.if-label-bound.true, s.least v l o); labels = settles_labels c.in-Some.id c.in-Some.label (g.T.Marks.mark c.loop-queue.marks) (g.T.Marks.mark c.settle_least.new.marks) s } in
    end_found c.args.limit c.loop-queue.bound c.args.to (g.T.Marks.mark c.loop-queue.marks) (g.T.Marks.mark c.settle_least.new.marks) e c.loop-queue.invariant.bounded

pub returns-clause-lengths : goal.returns-clause-lengths
returns-clause-lengths g c =
    let e : AtEnd c.loop-queue.bound (g.T.Marks.mark c.loop-queue.marks) (g.T.Marks.mark c.settle_least.new.marks) = record { far = λ v l o. (let none : (v : ℕ) → open_in (g.T.Marks.mark c.settle_least.new.marks) v ≡ None = at_none c.in_ok-id.field-0 c.in_default.is c.in_ok-id.ensures.none in let same : (v : ℕ) → (g.T.Marks.mark c.settle_least.new.marks) v ≡ (g.T.Marks.mark c.loop-queue.marks) v = at_none c.in_ok-id.field-0 c.in_default.is c.in_ok-id.ensures.same in not_open c.loop-queue.bound (g.T.Marks.mark c.loop-queue.marks) (g.T.Marks.mark c.settle_least.new.marks) v l (same v) (none v) o); labels = same_labels (g.T.Marks.mark c.loop-queue.marks) (g.T.Marks.mark c.settle_least.new.marks) (at_none c.in_ok-id.field-0 c.in_default.is c.in_ok-id.ensures.same) } in
    near_lengths c.loop-queue.bound (g.T.Marks.mark c.loop-queue.marks) (g.T.Marks.mark c.settle_least.new.marks) c.loop-queue.invariant.searched c.loop-queue.invariant.low e (g.met.G.Ground.lets_shorter c.args.ground.now)

pub returns-clause-route : goal.returns-clause-route
returns-clause-route g c =
    let e : AtEnd c.loop-queue.bound (g.T.Marks.mark c.loop-queue.marks) (g.T.Marks.mark c.settle_least.new.marks) = record { far = λ v l o. (let none : (v : ℕ) → open_in (g.T.Marks.mark c.settle_least.new.marks) v ≡ None = at_none c.in_ok-id.field-0 c.in_default.is c.in_ok-id.ensures.none in let same : (v : ℕ) → (g.T.Marks.mark c.settle_least.new.marks) v ≡ (g.T.Marks.mark c.loop-queue.marks) v = at_none c.in_ok-id.field-0 c.in_default.is c.in_ok-id.ensures.same in not_open c.loop-queue.bound (g.T.Marks.mark c.loop-queue.marks) (g.T.Marks.mark c.settle_least.new.marks) v l (same v) (none v) o); labels = same_labels (g.T.Marks.mark c.loop-queue.marks) (g.T.Marks.mark c.settle_least.new.marks) (at_none c.in_ok-id.field-0 c.in_default.is c.in_ok-id.ensures.same) } in
    near_way c.loop-queue.bound (g.T.Marks.mark c.loop-queue.marks) (g.T.Marks.mark c.settle_least.new.marks) c.loop-queue.invariant.searched c.loop-queue.invariant.low e (g.met.G.Ground.lets_shorter c.args.ground.now) c.args.to (end_kept c.loop-queue.bound c.args.to (g.T.Marks.mark c.loop-queue.marks) (g.T.Marks.mark c.settle_least.new.marks) c.loop-queue.invariant.searched e c.loop-queue.invariant.bounded)

pub returns-clause-end : goal.returns-clause-end
returns-clause-end g c =
    let e : AtEnd c.loop-queue.bound (g.T.Marks.mark c.loop-queue.marks) (g.T.Marks.mark c.settle_least.new.marks) = record { far = λ v l o. (let none : (v : ℕ) → open_in (g.T.Marks.mark c.settle_least.new.marks) v ≡ None = at_none c.in_ok-id.field-0 c.in_default.is c.in_ok-id.ensures.none in let same : (v : ℕ) → (g.T.Marks.mark c.settle_least.new.marks) v ≡ (g.T.Marks.mark c.loop-queue.marks) v = at_none c.in_ok-id.field-0 c.in_default.is c.in_ok-id.ensures.same in not_open c.loop-queue.bound (g.T.Marks.mark c.loop-queue.marks) (g.T.Marks.mark c.settle_least.new.marks) v l (same v) (none v) o); labels = same_labels (g.T.Marks.mark c.loop-queue.marks) (g.T.Marks.mark c.settle_least.new.marks) (at_none c.in_ok-id.field-0 c.in_default.is c.in_ok-id.ensures.same) } in
    sym (cut_length c.loop-queue.bound (label_in (g.T.Marks.mark c.settle_least.new.marks) c.args.to)) ∙ ap (λ o. option_map (λ (l : Label). l.length) o) (end_kept c.loop-queue.bound c.args.to (g.T.Marks.mark c.loop-queue.marks) (g.T.Marks.mark c.settle_least.new.marks) c.loop-queue.invariant.searched e c.loop-queue.invariant.bounded)

pub returns-clause-whole : goal.returns-clause-whole
returns-clause-whole g c =
    let e : AtEnd c.loop-queue.bound (g.T.Marks.mark c.loop-queue.marks) (g.T.Marks.mark c.settle_least.new.marks) = record { far = λ v l o. (let none : (v : ℕ) → open_in (g.T.Marks.mark c.settle_least.new.marks) v ≡ None = at_none c.in_ok-id.field-0 c.in_default.is c.in_ok-id.ensures.none in let same : (v : ℕ) → (g.T.Marks.mark c.settle_least.new.marks) v ≡ (g.T.Marks.mark c.loop-queue.marks) v = at_none c.in_ok-id.field-0 c.in_default.is c.in_ok-id.ensures.same in not_open c.loop-queue.bound (g.T.Marks.mark c.loop-queue.marks) (g.T.Marks.mark c.settle_least.new.marks) v l (same v) (none v) o); labels = same_labels (g.T.Marks.mark c.loop-queue.marks) (g.T.Marks.mark c.settle_least.new.marks) (at_none c.in_ok-id.field-0 c.in_default.is c.in_ok-id.ensures.same) } in
    end_found c.args.limit c.loop-queue.bound c.args.to (g.T.Marks.mark c.loop-queue.marks) (g.T.Marks.mark c.settle_least.new.marks) e c.loop-queue.invariant.bounded
