use Rattle.std.proofs.Common.{◌≡◌, ℕ, suc, ◌+◌, ◌-◌, ◌*◌, ◌/◌, ◌≤◌, min, List, [], ◌∷◌, ◌++◌, arith, ap, ◌∙◌, sym, subst, true}
use Rattle.std.specs.List.{range_with_len, flat_map}
use Rattle.std.proofs.lemmas.Grind.{common_steps}
use Rattle.std.proofs.lemmas.List.{append-nil}
use Rattle.merkle_cover.specs.Shape.{places_at}
use Rattle.merkle_cover.specs.Covers.{cover_below, has_chosen}
use Rattle.merkle_cover.specs.Folding.{digest_in}
use Rattle.merkle_cover.proofs.FoldLemmas.{CanWalk-room, CanWalk-place, CanWalk-child, children-is}
use Rattle.merkle_cover.proofs.CoverLemmas.{cover_below-none, cover_below-leaf, cover_below-above}
use Rattle.merkle_cover.proofs.WalkLemmas.{above-leaves, level-up, walk-fan, walk-room, walk-end, fits-behind, fits-first, fits-end, room-above, walk-none, walk-some, walk-first, walk-child, walk-behind, flat_map-child}
use Rattle.merkle_cover.proofs.covers.+cover_place.Goals as goal

pub overflow_add-place : goal.overflow_add-place
overflow_add-place t c = omega (arith, (CanWalk-room c.requires.walk).1)

pub digest_of-digest-requires-clause-place : goal.digest_of-digest-requires-clause-place
digest_of-digest-requires-clause-place t c =
    omega (arith, CanWalk-place c.requires.walk, c.requires.levels.sizes c.args.level (omega arith))

pub returns-then-not-is_next_below-clause-out : goal.returns-then-not-is_next_below-clause-out
returns-then-not-is_next_below-clause-out t c =
    let at = digest_in c.args.walk.now.levels.now in
    let one : c.push.new.list.items ≡ c.args.out.now.items ++ c.digest_of-digest.result ∷ [] = grind (arith, common_steps) in
    one ∙ ap (λ (x : List ℕ). c.args.out.now.items ++ x ∷ []) c.digest_of-digest.ensures
    ∙ ap (λ (l : List (List ℕ)). c.args.out.now.items ++ l) (sym (cover_below-none at c.args.walk.now.leaves c.args.walk.now.fan c.args.walk.now.places.now c.args.level c.args.place (walk-none c.requires.walk c.if-not-is_next_below.ensures.past)))

pub returns-then-level-eq0-clause-out : goal.returns-then-level-eq0-clause-out
returns-then-level-eq0-clause-out t c =
    let at = digest_in c.args.walk.now.levels.now in
    let next = c.if-not-is_next_below.ensures.next in
    sym (ap (λ (l : List (List ℕ)). c.args.out.now.items ++ l) (cover_below-leaf at c.args.walk.now.leaves c.args.walk.now.fan c.args.walk.now.places.now c.args.level c.args.place c.if-level-eq0.true (walk-some c.requires.walk next.0 next.1)) ∙ append-nil c.args.out.now.items)

pub overflow_mul-place : goal.overflow_mul-place
overflow_mul-place t c = fits-behind c.requires.walk

pub nonzero_div-below : goal.nonzero_div-below
nonzero_div-below t c = walk-fan c.requires.walk

pub overflow_mul-first : goal.overflow_mul-first
overflow_mul-first t c = fits-first c.requires.walk

pub overflow_add-first : goal.overflow_add-first
overflow_add-first t c = fits-end c.requires.walk

pub div_ceil-requires : goal.div_ceil-requires
div_ceil-requires t c = room-above c.requires.walk c.if-level-eq0.false

pub overflow_sub-level : goal.overflow_sub-level
overflow_sub-level t c = above-leaves c.args.level c.if-level-eq0.false

pub loop-child-init : goal.loop-child-init
loop-child-init t c =
    let f = c.args.walk.now.fan in
    let b = walk-room c.requires.walk c.if-level-eq0.false in
    let none : c.args.place * f - c.args.place * f ≡ 0 = omega arith in
    rw none (record {
      items_at = walk-first c.requires.walk (c.args.level - 1) (c.args.span / f) (level-up c.args.level c.if-level-eq0.false) b;
      out_is = sym (append-nil c.args.out.now.items);
    })

pub cover_place-requires : goal.cover_place-requires
cover_place-requires t c =
    let n = c.args.walk.now.leaves in
    let f = c.args.walk.now.fan in
    let j : ℕ = c.args.level - 1 in
    let b = walk-room c.requires.walk c.if-level-eq0.false in
    let ee : c.min-end.result ≡ min (c.args.place * f + f) (places_at n f j) = c.min-end.ensures ∙ ap (min (c.args.place * f + f)) c.div_ceil.ensures ∙ walk-end c.requires.walk c.if-level-eq0.false in (
      omega (arith, c.decreases, c.if-level-eq0.false),
      (
        CanWalk-child c.requires.walk j (c.args.span / f) c.min-end.result c.loop-child.child c.loop-child.item (level-up c.args.level c.if-level-eq0.false) b ee c.loop-child-test.true c.loop-child.invariant.items_at,
        record {
          levels_in = λ i l. c.requires.levels.levels_in i (omega (arith, l));
          sizes = λ i l. c.requires.levels.sizes i (omega (arith, l));
        },
      ),
    )

pub loop-child-preserved : goal.loop-child-preserved
loop-child-preserved t c =
    let f = c.args.walk.now.fan in
    let g = cover_below (digest_in c.args.walk.now.levels.now) c.args.walk.now.leaves f c.args.walk.now.places.now (c.args.level - 1) in
    record {
      items_at = c.in_ok-item.ensures.next;
      out_is = c.in_ok-item.ensures.out ∙ flat_map-child g (c.args.place * f) c.loop-child.child c.args.out.now.items c.loop-child.out.items c.loop-child.auto.child c.loop-child.invariant.out_is;
    }

pub returns-clause-next : goal.returns-clause-next
returns-clause-next t c =
    let n = c.args.walk.now.leaves in
    let f = c.args.walk.now.fan in
    let j : ℕ = c.args.level - 1 in
    let up = level-up c.args.level c.if-level-eq0.false in
    let b = walk-room c.requires.walk c.if-level-eq0.false in
    let ee : c.min-end.result ≡ min (c.args.place * f + f) (places_at n f j) = c.min-end.ensures ∙ ap (min (c.args.place * f + f)) c.div_ceil.ensures ∙ walk-end c.requires.walk c.if-level-eq0.false in
    let first : c.args.place * f ≤ c.min-end.result = omega (arith, ee, walk-child c.requires.walk j (c.args.span / f) up b) in
    let end : c.loop-child.child ≡ c.min-end.result = omega (arith, c.loop-child-test.false, c.loop-child.auto.child-end first) in
    walk-behind c.requires.walk j (c.args.span / f) c.loop-child.child c.loop-child.item up b (end ∙ ee) c.loop-child.invariant.items_at

pub returns-clause-out : goal.returns-clause-out
returns-clause-out t c =
    let n = c.args.walk.now.leaves in
    let f = c.args.walk.now.fan in
    let places = c.args.walk.now.places.now in
    let at = digest_in c.args.walk.now.levels.now in
    let j : ℕ = c.args.level - 1 in
    let up = level-up c.args.level c.if-level-eq0.false in
    let b = walk-room c.requires.walk c.if-level-eq0.false in
    let ee : c.min-end.result ≡ min (c.args.place * f + f) (places_at n f j) = c.min-end.ensures ∙ ap (min (c.args.place * f + f)) c.div_ceil.ensures ∙ walk-end c.requires.walk c.if-level-eq0.false in
    let first : c.args.place * f ≤ c.min-end.result = omega (arith, ee, walk-child c.requires.walk j (c.args.span / f) up b) in
    let end : c.loop-child.child ≡ c.min-end.result = omega (arith, c.loop-child-test.false, c.loop-child.auto.child-end first) in
    let next = c.if-not-is_next_below.ensures.next in
    let some : has_chosen f places (suc j) c.args.place ≡ true = subst (λ x. has_chosen f places x c.args.place ≡ true) up (walk-some c.requires.walk next.0 next.1) in
    let kids = children-is n f j c.args.place c.loop-child.child (end ∙ ee) in
    let whole : cover_below at n f places c.args.level c.args.place ≡ flat_map (cover_below at n f places j) (range_with_len (c.args.place * f) (c.loop-child.child - c.args.place * f)) =
    ap (λ x. cover_below at n f places x c.args.place) up ∙ cover_below-above at n f places j c.args.place some ∙ ap (flat_map (cover_below at n f places j)) kids in
    c.loop-child.invariant.out_is ∙ ap (λ (l : List (List ℕ)). c.args.out.now.items ++ l) (sym whole)
