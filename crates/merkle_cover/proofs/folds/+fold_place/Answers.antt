use borrow.Author.Count.{falls}
use Rattle.std.proofs.Common.{◌≡◌, ℕ, ◌+◌, ◌-◌, ◌*◌, ◌/◌, ◌≤◌, min, List, [], ◌∷◌, arith, ap, ◌∙◌, subst}
use Rattle.merkle_cover.specs.Covers.{need, folded, folded_in_turn}
use Rattle.merkle_cover.specs.Folding.{SplitsAt}
use Rattle.merkle_cover.proofs.FoldLemmas.{CanWalk-room, IsFolded-none, IsFolded-leaf, IsFolded-above, CanWalk-child, CanWalk-wide, told-more, taken-more}
use Rattle.merkle_cover.proofs.WalkLemmas.{above-leaves, level-up, walk-fan, walk-room, walk-end, walk-child, fits-behind, fits-first, fits-end, fits-item, fits-next-item, fits-taken, given-there, room-above}
use Rattle.merkle_cover.proofs.folds.+fold_place.Goals as goal

pub overflow_add-place : goal.overflow_add-place
overflow_add-place g t c = omega (arith, (CanWalk-room c.requires.walk).1)

pub overflow_mul-place : goal.overflow_mul-place
overflow_mul-place g t c = fits-behind c.requires.walk

pub overflow_add-result : goal.overflow_add-result
overflow_add-result g t c = fits-taken c.requires

pub returns-then-not-is_next_below : goal.returns-then-not-is_next_below
returns-then-not-is_next_below g t c =
    IsFolded-none g.H.Hasher.hash c.args.given.now.cover.now c.digest_at.result c.requires c.if-not-is_next_below.ensures.past c.digest_at.ensures.value

pub overflow_cast-item : goal.overflow_cast-item
overflow_cast-item g t c = fits-item c.requires.walk c.if-not-is_next_below.ensures.next.0

pub text-requires : goal.text-requires
text-requires g t c = given-there c.requires c.if-not-is_next_below.ensures.next.0

pub overflow_add-result-then-level-eq0 : goal.overflow_add-result-then-level-eq0
overflow_add-result-then-level-eq0 g t c = fits-next-item c.requires.walk c.if-not-is_next_below.ensures.next.0

pub returns-then-level-eq0 : goal.returns-then-level-eq0
returns-then-level-eq0 g t c =
    IsFolded-leaf g.H.Hasher.hash c.args.given.now.cover.now c.leaf_digest.result c.requires c.if-level-eq0.true c.if-not-is_next_below.ensures.next.0 c.if-not-is_next_below.ensures.next.1 (c.leaf_digest.ensures ∙ ap (λ (x : List ℕ). g.H.Hasher.hash (0 ∷ x)) c.text.ensures)

pub nonzero_div-below : goal.nonzero_div-below
nonzero_div-below g t c = walk-fan c.requires.walk

pub overflow_mul-first : goal.overflow_mul-first
overflow_mul-first g t c = fits-first c.requires.walk

pub overflow_add-first : goal.overflow_add-first
overflow_add-first g t c = fits-end c.requires.walk

pub div_ceil-requires : goal.div_ceil-requires
div_ceil-requires g t c = room-above c.requires.walk c.if-level-eq0.false

pub loop-child-init : goal.loop-child-init
unfolding folded_in_turn
loop-child-init g t c =
    let f = c.args.given.now.fan in
    let j : ℕ = c.args.level - 1 in
    let b = walk-room c.requires.walk c.if-level-eq0.false in
    let wide = CanWalk-wide c.requires.walk j (c.args.span / f) (level-up c.args.level c.if-level-eq0.false) b in
    let none : c.args.place * f - c.args.place * f ≡ 0 = omega arith in
    let same : c.args.place * c.args.span ≡ (c.args.place * f) * (c.args.span / f) = ap (λ x. c.args.place * x) wide ∙ omega arith in
    rw none (record {
      told = c.add.ensures [] c.start-hasher.ensures;
      taken_is = omega arith;
      items_at = subst (λ x. SplitsAt c.args.given.now.places.now x c.args.item) same c.requires.walk.items;
      few = omega (arith, c.requires.taken, same);
    })

pub overflow_sub-level : goal.overflow_sub-level
overflow_sub-level g t c = above-leaves c.args.level c.if-level-eq0.false

pub loop-child-smaller : goal.loop-child-smaller
loop-child-smaller g t c = falls c.min-end.result c.loop-child.child c.loop-child-test.true

pub fold_place-part-requires : goal.fold_place-part-requires
fold_place-part-requires g t c κs within =
    let n = c.args.given.now.leaves in
    let f = c.args.given.now.fan in
    let j : ℕ = c.args.level - 1 in
    let b = walk-room c.requires.walk c.if-level-eq0.false in
    let ee = c.min-end.ensures ∙ ap (min (c.args.place * f + f)) c.div_ceil.ensures ∙ walk-end c.requires.walk c.if-level-eq0.false in
    (omega (arith, c.decreases, c.if-level-eq0.false), (within, record { walk = CanWalk-child c.requires.walk j (c.args.span / f) c.min-end.result c.loop-child.child c.loop-child.item (level-up c.args.level c.if-level-eq0.false) b ee c.loop-child-test.true c.loop-child.invariant.items_at; texts = c.requires.texts; taken = c.loop-child.invariant.few }))

pub loop-child-preserved : goal.loop-child-preserved
loop-child-preserved g t c =
    let n = c.args.given.now.leaves in
    let f = c.args.given.now.fan in
    let places = c.args.given.now.places.now in
    let cover = c.args.given.now.cover.now in
    let j : ℕ = c.args.level - 1 in
    let h = g.H.Hasher.hash in
    let at = c.loop-child.invariant in
    let part = c.fold_place-part.ensures in
    record {
      told = rw (told-more (need n f places j) (folded h n f places c.args.given.now.texts.now j) (c.args.place * f) c.loop-child.child c.args.taken c.loop-child.taken cover c.fold_place-part.result.digest c.loop-child.auto.child at.taken_is part.digest) (c.add-in-loop-child.ensures _ at.told);
      taken_is = taken-more (need n f places j) (c.args.place * f) c.loop-child.child c.args.taken c.loop-child.taken c.fold_place-part.result.taken c.loop-child.auto.child at.taken_is part.taken;
      items_at = part.items;
      few = part.few;
    }

pub returns : goal.returns
returns g t c =
    let n = c.args.given.now.leaves in
    let f = c.args.given.now.fan in
    let j : ℕ = c.args.level - 1 in
    let b = walk-room c.requires.walk c.if-level-eq0.false in
    let ee = c.min-end.ensures ∙ ap (min (c.args.place * f + f)) c.div_ceil.ensures ∙ walk-end c.requires.walk c.if-level-eq0.false in
    let next = c.if-not-is_next_below.ensures.next in
    let at = c.loop-child.invariant in
    let first : c.args.place * f ≤ c.min-end.result = omega (arith, ee, walk-child c.requires.walk j (c.args.span / f) (level-up c.args.level c.if-level-eq0.false) b) in
    let end : c.loop-child.child ≡ c.min-end.result = omega (arith, c.loop-child-test.false, c.loop-child.auto.child-end first) in
    IsFolded-above g.H.Hasher.hash c.args.given.now.cover.now c.end.result c.requires j (c.args.span / f) c.loop-child.child c.loop-child.item c.loop-child.taken (level-up c.args.level c.if-level-eq0.false) b (end ∙ ee) next.0 next.1 at.items_at at.taken_is at.few (c.end.ensures _ at.told)
