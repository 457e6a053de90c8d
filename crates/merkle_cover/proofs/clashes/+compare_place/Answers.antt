use borrow.Author.Count.{falls}
use Rattle.std.proofs.Common.{◌≡◌, ℕ, ◌+◌, ◌-◌, ◌*◌, ◌/◌, ◌≤◌, min, List, [], ◌∷◌, length, drop, arith, ap, ◌∙◌, sym, refl}
use Rattle.std.specs.Int.{div_ceil}
use Rattle.std.specs.List.{range_with_len}
use Rattle.std.proofs.lemmas.List.{length-append}
use Rattle.std.proofs.Math.Nat.{le_refl}
use Rattle.merkle_cover.specs.Shape.{places_at}
use Rattle.merkle_cover.specs.Trees.{digest}
use Rattle.merkle_cover.specs.Covers.{need, folded, folded_in_turn}
use Rattle.merkle_cover.proofs.FoldLemmas.{CanWalk-room, CanWalk-place, CanWalk-wide, IsFolded-none, IsFolded-leaf, IsFolded-above, told-more, taken-more}
use Rattle.merkle_cover.proofs.WalkLemmas.{above-leaves, level-up, one-below, walk-fan, walk-room, walk-end, walk-there, fits-place, fits-behind, fits-first, fits-end, fits-item, fits-next-item, fits-taken, given-there, room-above, walk-some, walk-first, walk-child}
use Rattle.merkle_cover.proofs.ClashLemmas.{SameSoFar-none, SameSoFar-more, SameBelow-none, SameBelow-leaf, SameBelow-above, IsClash-leaf, IsClash-above, CanCompare-child, apart-more, both_true, both_false}
use Rattle.merkle_cover.proofs.clashes.+compare_place.Goals as goal

pub overflow_add-place : goal.overflow_add-place
overflow_add-place g t c = omega (arith, (CanWalk-room c.requires.compare.fold.walk).1, c.requires.compare.fold.walk.place, c.requires.compare.fold.walk.leaves)

pub overflow_mul-place : goal.overflow_mul-place
overflow_mul-place g t c = fits-behind c.requires.compare.fold.walk

pub overflow_add-result : goal.overflow_add-result
overflow_add-result g t c = fits-taken c.requires.compare.fold

pub returns-then-not-is_next_below-clause-size : goal.returns-then-not-is_next_below-clause-size
returns-then-not-is_next_below-clause-size g t c = c.digest_at.ensures.size

pub returns-then-not-is_next_below-clause-folded : goal.returns-then-not-is_next_below-clause-folded
returns-then-not-is_next_below-clause-folded g t c =
    IsFolded-none g.H.Hasher.hash c.args.given.now.cover.now c.digest_at.result c.requires.compare.fold c.if-not-is_next_below.ensures.past c.digest_at.ensures.value

pub returns-then-not-is_next_below-clause-same : goal.returns-then-not-is_next_below-clause-same
returns-then-not-is_next_below-clause-same g t c =
    λ e. SameBelow-none g.H.Hasher.hash c.args.leaves.now c.args.given.now.fan c.args.given.now.places.now c.args.given.now.texts.now c.args.given.now.cover.now c.args.levels.now _ c.requires.compare c.if-not-is_next_below.ensures.past c.digest_at.result c.digest_at.ensures.value e

pub digest_of-of_tree-requires-clause-level : goal.digest_of-of_tree-requires-clause-level
digest_of-of_tree-requires-clause-level g t c = c.requires.compare.levels_in.levels_in c.args.level (le_refl c.args.level)

pub digest_of-of_tree-requires-clause-place : goal.digest_of-of_tree-requires-clause-place
digest_of-of_tree-requires-clause-place g t c =
    omega (arith, CanWalk-place c.requires.compare.fold.walk, c.requires.compare.levels_in.sizes c.args.level (le_refl c.args.level))

pub overflow_cast-item : goal.overflow_cast-item
overflow_cast-item g t c = fits-item c.requires.compare.fold.walk c.if-not-is_next_below.ensures.next.0

pub text-text-requires : goal.text-text-requires
text-text-requires g t c = given-there c.requires.compare.fold c.if-not-is_next_below.ensures.next.0

pub overflow_add-all : goal.overflow_add-all
overflow_add-all g t c = fits-next-item c.requires.compare.fold.walk c.if-not-is_next_below.ensures.next.0

pub overflow_cast-place : goal.overflow_cast-place
overflow_cast-place g t c = fits-place c.requires.compare.fold.walk

pub text-requires : goal.text-requires
text-requires g t c = walk-there c.requires.compare.fold.walk

pub returns-then-same_octets-clause-folded : goal.returns-then-same_octets-clause-folded
returns-then-same_octets-clause-folded g t c =
    IsFolded-leaf g.H.Hasher.hash c.args.given.now.cover.now c.leaf_digest.result c.requires.compare.fold c.if-level-eq0.true c.if-not-is_next_below.ensures.next.0 c.if-not-is_next_below.ensures.next.1 (c.leaf_digest.ensures ∙ ap (λ (x : List ℕ). g.H.Hasher.hash (0 ∷ x)) c.text-text.ensures)

pub returns-then-same_octets-clause-same : goal.returns-then-same_octets-clause-same
returns-then-same_octets-clause-same g t c =
    λ _. SameBelow-leaf g.H.Hasher.hash c.args.leaves.now c.args.given.now.fan c.args.given.now.places.now c.args.given.now.texts.now c.args.given.now.cover.now c.args.levels.now _ c.requires.compare c.if-level-eq0.true c.if-not-is_next_below.ensures.next.0 c.if-not-is_next_below.ensures.next.1 (sym c.text-text.ensures ∙ c.if-same_octets.ensures.same ∙ c.text.ensures)

pub returns-then-same_octets-clause-size : goal.returns-then-same_octets-clause-size
returns-then-same_octets-clause-size g t c = ap (λ (l : List ℕ). length l) c.leaf_digest.ensures ∙ g.met.H.Hasher.size _

pub returns-then-same_digests-clause-clash : goal.returns-then-same_digests-clause-clash
returns-then-same_digests-clause-clash g t c =
    let tree = c.digest_of-of_tree.ensures ∙ c.requires.compare.digests c.args.level c.args.place (le_refl c.args.level) (CanWalk-place c.requires.compare.fold.walk) in
    let mine = c.leaf_digest.ensures ∙ ap (λ (x : List ℕ). g.H.Hasher.hash (0 ∷ x)) c.text-text.ensures in
    IsClash-leaf g.H.Hasher.hash c.args.leaves.now c.args.given.now.fan c.args.given.now.places.now c.args.given.now.texts.now c.args.given.now.cover.now c.args.levels.now _ c.requires.compare c.if-level-eq0.true c.if-not-is_next_below.ensures.next.0 c.if-not-is_next_below.ensures.next.1 (λ h. c.if-same_octets.ensures.apart (c.text-text.ensures ∙ h ∙ sym c.text.ensures)) (sym mine ∙ c.if-same_digests.ensures.same ∙ tree)

pub returns-then-level-eq0-clause-folded : goal.returns-then-level-eq0-clause-folded
returns-then-level-eq0-clause-folded g t c =
    IsFolded-leaf g.H.Hasher.hash c.args.given.now.cover.now c.leaf_digest.result c.requires.compare.fold c.if-level-eq0.true c.if-not-is_next_below.ensures.next.0 c.if-not-is_next_below.ensures.next.1 (c.leaf_digest.ensures ∙ ap (λ (x : List ℕ). g.H.Hasher.hash (0 ∷ x)) c.text-text.ensures)

pub returns-then-level-eq0-clause-same : goal.returns-then-level-eq0-clause-same
returns-then-level-eq0-clause-same g t c =
    let tree = c.digest_of-of_tree.ensures ∙ c.requires.compare.digests c.args.level c.args.place (le_refl c.args.level) (CanWalk-place c.requires.compare.fold.walk) in
    λ e. absurd (c.if-same_digests.ensures.apart (e ∙ sym tree))

pub returns-then-level-eq0-clause-size : goal.returns-then-level-eq0-clause-size
returns-then-level-eq0-clause-size g t c = ap (λ (l : List ℕ). length l) c.leaf_digest.ensures ∙ g.met.H.Hasher.size _

pub nonzero_div-below : goal.nonzero_div-below
nonzero_div-below g t c = walk-fan c.requires.compare.fold.walk

pub overflow_mul-first : goal.overflow_mul-first
overflow_mul-first g t c = fits-first c.requires.compare.fold.walk

pub overflow_add-first : goal.overflow_add-first
overflow_add-first g t c = fits-end c.requires.compare.fold.walk

pub div_ceil-requires : goal.div_ceil-requires
div_ceil-requires g t c = room-above c.requires.compare.fold.walk c.if-level-eq0.false

pub loop-child-init : goal.loop-child-init
unfolding folded_in_turn
loop-child-init g t c =
    let f = c.args.given.now.fan in
    let q = c.requires.compare.fold.walk in
    let up = level-up c.args.level c.if-level-eq0.false in
    let b = walk-room q c.if-level-eq0.false in
    let wide = CanWalk-wide q (c.args.level - 1) (c.args.span / f) up b in
    let none : c.args.place * f - c.args.place * f ≡ 0 = omega arith in
    rw none (record {
      told = c.add.ensures [] c.start-hasher.ensures;
      taken_is = omega arith;
      items_at = walk-first q (c.args.level - 1) (c.args.span / f) up b;
      few = omega (arith, c.requires.compare.fold.taken, ap (λ x. c.args.place * x) wide);
      size = refl;
      same = SameSoFar-none g.H.Hasher.hash c.args.leaves.now f c.args.given.now.places.now c.args.given.now.texts.now c.args.given.now.cover.now c.args.levels.now [] (c.args.level - 1) (c.args.place * f) c.args.taken c.args.item;
      apart = tt;
    })

pub overflow_sub-level : goal.overflow_sub-level
overflow_sub-level g t c = above-leaves c.args.level c.if-level-eq0.false

pub overflow_sub-level-in-loop-child : goal.overflow_sub-level-in-loop-child
overflow_sub-level-in-loop-child g t c = above-leaves c.args.level c.if-level-eq0.false

pub loop-child-smaller : goal.loop-child-smaller
loop-child-smaller g t c = falls c.min-end.result c.loop-child.child c.loop-child-test.true

pub compare_place-requires : goal.compare_place-requires
compare_place-requires g t c κs within =
    let n = length c.args.leaves.now in
    let f = c.args.given.now.fan in
    let j : ℕ = c.args.level - 1 in
    let q = c.requires.compare.fold.walk in
    let up = level-up c.args.level c.if-level-eq0.false in
    let b = walk-room q c.if-level-eq0.false in
    let ee : c.min-end.result ≡ min (c.args.place * f + f) (places_at n f j) = c.min-end.ensures ∙ ap (min (c.args.place * f + f)) (c.div_ceil.ensures ∙ ap (λ x. div_ceil x (c.args.span / f)) c.requires.count) ∙ walk-end q c.if-level-eq0.false in
    let next = c.if-not-is_next_below.ensures.next in
    let at = c.loop-child.invariant in (
      omega (arith, c.decreases, c.if-level-eq0.false),
      (
        within,
        (
          c.requires.count,
          CanCompare-child g.H.Hasher.hash c.args.leaves.now c.args.given.now.fan c.args.given.now.places.now c.args.given.now.texts.now c.args.given.now.cover.now c.args.levels.now _ c.requires.compare (walk-some q next.0 next.1) j (c.args.span / f) c.min-end.result c.loop-child.child c.loop-child.item c.loop-child.taken up b ee c.loop-child.auto.child c.loop-child-test.true at.items_at at.few at.taken_is,
        ),
      ),
    )

pub digest_of-of_child-requires-clause-level : goal.digest_of-of_child-requires-clause-level
digest_of-of_child-requires-clause-level g t c = c.requires.compare.levels_in.levels_in (c.args.level - 1) (one-below c.args.level)

pub digest_of-of_child-requires-clause-place : goal.digest_of-of_child-requires-clause-place
digest_of-of_child-requires-clause-place g t c =
    let n = length c.args.leaves.now in
    let f = c.args.given.now.fan in
    let j : ℕ = c.args.level - 1 in
    let q = c.requires.compare.fold.walk in
    let up = level-up c.args.level c.if-level-eq0.false in
    let b = walk-room q c.if-level-eq0.false in
    let ee : c.min-end.result ≡ min (c.args.place * f + f) (places_at n f j) = c.min-end.ensures ∙ ap (min (c.args.place * f + f)) (c.div_ceil.ensures ∙ ap (λ x. div_ceil x (c.args.span / f)) c.requires.count) ∙ walk-end q c.if-level-eq0.false in
    let next = c.if-not-is_next_below.ensures.next in
    let at = c.loop-child.invariant in
    omega (arith, ee, c.loop-child-test.true, c.requires.compare.levels_in.sizes j (omega arith))

pub loop-child-preserved : goal.loop-child-preserved
loop-child-preserved g t c =
    let n = length c.args.leaves.now in
    let f = c.args.given.now.fan in
    let j : ℕ = c.args.level - 1 in
    let q = c.requires.compare.fold.walk in
    let up = level-up c.args.level c.if-level-eq0.false in
    let b = walk-room q c.if-level-eq0.false in
    let ee : c.min-end.result ≡ min (c.args.place * f + f) (places_at n f j) = c.min-end.ensures ∙ ap (min (c.args.place * f + f)) (c.div_ceil.ensures ∙ ap (λ x. div_ceil x (c.args.span / f)) c.requires.count) ∙ walk-end q c.if-level-eq0.false in
    let next = c.if-not-is_next_below.ensures.next in
    let at = c.loop-child.invariant in
    let hash = g.H.Hasher.hash in
    let law = g.met.H.Hasher.size in
    let leaves = c.args.leaves.now in
    let places = c.args.given.now.places.now in
    let given = c.args.given.now.texts.now in
    let cover = c.args.given.now.cover.now in
    let child = c.loop-child.child in
    let part = c.in_ok-part.part in
    let told = c.in_ok-part.ensures in
    let a : List ℕ = folded_in_turn (need n f places j) (folded hash n f places given j) (range_with_len (c.args.place * f) (child - c.args.place * f)) (drop c.args.taken cover) in
    let more = told-more (need n f places j) (folded hash n f places given j) (c.args.place * f) child c.args.taken c.loop-child.taken cover part.digest c.loop-child.auto.child at.taken_is told.folded.digest in
    let tree : c.digest_of-of_child.result ≡ digest hash leaves f j child = c.digest_of-of_child.ensures ∙ c.requires.compare.digests j child (omega arith) (omega (arith, ee, c.loop-child-test.true)) in
    let tests = c.same_digests-in-loop-child.ensures in
    record {
      told = rw more (c.add-in-loop-child.ensures _ at.told);
      taken_is = taken-more (need n f places j) (c.args.place * f) child c.args.taken c.loop-child.taken part.taken c.loop-child.auto.child at.taken_is told.folded.taken;
      items_at = told.folded.items;
      few = told.folded.few;
      size = rw more (omega (arith, length-append a part.digest, at.size, told.size, c.loop-child.auto.child));
      same = both_true c.loop-child.equal c.same_digests-in-loop-child.result c.both-equal.result c.both-equal.ensures at.same tests.same
          (λ s e. SameSoFar-more g.H.Hasher.hash c.args.leaves.now c.args.given.now.fan c.args.given.now.places.now c.args.given.now.texts.now c.args.given.now.cover.now c.args.levels.now [] law j (c.args.place * f) child c.args.taken c.args.item c.loop-child.item part.item c.loop-child.taken part.digest c.loop-child.auto.child s at.taken_is more (e ∙ tree) (told.same (e ∙ tree)));
      apart = both_false c.loop-child.equal c.same_digests-in-loop-child.result c.both-equal.result c.both-equal.ensures at.apart tests.apart
          (λ ne h. apart-more g.H.Hasher.hash c.args.leaves.now c.args.given.now.fan c.args.given.now.places.now c.args.given.now.texts.now c.args.given.now.cover.now c.args.levels.now [] law j (c.args.place * f) child a part.digest c.loop-child.auto.child at.size (λ x y. ne x) (sym more ∙ h))
          (λ ne h. apart-more g.H.Hasher.hash c.args.leaves.now c.args.given.now.fan c.args.given.now.places.now c.args.given.now.texts.now c.args.given.now.cover.now c.args.levels.now [] law j (c.args.place * f) child a part.digest c.loop-child.auto.child at.size (λ x y. ne (y ∙ sym tree)) (sym more ∙ h));
    }

pub returns-then-equal-clause-folded : goal.returns-then-equal-clause-folded
returns-then-equal-clause-folded g t c =
    let n = length c.args.leaves.now in
    let f = c.args.given.now.fan in
    let j : ℕ = c.args.level - 1 in
    let q = c.requires.compare.fold.walk in
    let up = level-up c.args.level c.if-level-eq0.false in
    let b = walk-room q c.if-level-eq0.false in
    let ee : c.min-end.result ≡ min (c.args.place * f + f) (places_at n f j) = c.min-end.ensures ∙ ap (min (c.args.place * f + f)) (c.div_ceil.ensures ∙ ap (λ x. div_ceil x (c.args.span / f)) c.requires.count) ∙ walk-end q c.if-level-eq0.false in
    let next = c.if-not-is_next_below.ensures.next in
    let at = c.loop-child.invariant in
    let first : c.args.place * f ≤ c.min-end.result = omega (arith, ee, walk-child q j (c.args.span / f) up b) in
    let end : c.loop-child.child ≡ c.min-end.result = omega (arith, c.loop-child-test.false, c.loop-child.auto.child-end first) in
    IsFolded-above g.H.Hasher.hash c.args.given.now.cover.now c.end-digest.result c.requires.compare.fold j (c.args.span / f) c.loop-child.child c.loop-child.item c.loop-child.taken up b (end ∙ ee) next.0 next.1 at.items_at at.taken_is at.few (c.end-digest.ensures _ at.told)

pub returns-then-equal-clause-same : goal.returns-then-equal-clause-same
returns-then-equal-clause-same g t c =
    let n = length c.args.leaves.now in
    let f = c.args.given.now.fan in
    let j : ℕ = c.args.level - 1 in
    let q = c.requires.compare.fold.walk in
    let up = level-up c.args.level c.if-level-eq0.false in
    let b = walk-room q c.if-level-eq0.false in
    let ee : c.min-end.result ≡ min (c.args.place * f + f) (places_at n f j) = c.min-end.ensures ∙ ap (min (c.args.place * f + f)) (c.div_ceil.ensures ∙ ap (λ x. div_ceil x (c.args.span / f)) c.requires.count) ∙ walk-end q c.if-level-eq0.false in
    let next = c.if-not-is_next_below.ensures.next in
    let at = c.loop-child.invariant in
    let first : c.args.place * f ≤ c.min-end.result = omega (arith, ee, walk-child q j (c.args.span / f) up b) in
    let end : c.loop-child.child ≡ c.min-end.result = omega (arith, c.loop-child-test.false, c.loop-child.auto.child-end first) in
    let s = rw c.if-equal.true at at.same in
    λ _. SameBelow-above g.H.Hasher.hash c.args.leaves.now c.args.given.now.fan c.args.given.now.places.now c.args.given.now.texts.now c.args.given.now.cover.now c.args.levels.now _ c.requires.compare (walk-some q next.0 next.1) j c.loop-child.child c.loop-child.item up (end ∙ ee) s

pub returns-then-same_digests-2-clause-clash : goal.returns-then-same_digests-2-clause-clash
returns-then-same_digests-2-clause-clash g t c =
    let n = length c.args.leaves.now in
    let f = c.args.given.now.fan in
    let j : ℕ = c.args.level - 1 in
    let q = c.requires.compare.fold.walk in
    let up = level-up c.args.level c.if-level-eq0.false in
    let b = walk-room q c.if-level-eq0.false in
    let ee : c.min-end.result ≡ min (c.args.place * f + f) (places_at n f j) = c.min-end.ensures ∙ ap (min (c.args.place * f + f)) (c.div_ceil.ensures ∙ ap (λ x. div_ceil x (c.args.span / f)) c.requires.count) ∙ walk-end q c.if-level-eq0.false in
    let next = c.if-not-is_next_below.ensures.next in
    let at = c.loop-child.invariant in
    let first : c.args.place * f ≤ c.min-end.result = omega (arith, ee, walk-child q j (c.args.span / f) up b) in
    let end : c.loop-child.child ≡ c.min-end.result = omega (arith, c.loop-child-test.false, c.loop-child.auto.child-end first) in
    let tree = c.digest_of-of_tree.ensures ∙ c.requires.compare.digests c.args.level c.args.place (le_refl c.args.level) (CanWalk-place q) in
    let ne = rw c.if-equal.false at at.apart in
    IsClash-above g.H.Hasher.hash c.args.leaves.now c.args.given.now.fan c.args.given.now.places.now c.args.given.now.texts.now c.args.given.now.cover.now c.args.levels.now _ c.requires.compare next j c.loop-child.child up (end ∙ ee) ne (sym (c.end-digest.ensures _ at.told) ∙ c.if-same_digests-2.ensures.same ∙ tree)

pub returns-clause-folded : goal.returns-clause-folded
returns-clause-folded g t c =
    let n = length c.args.leaves.now in
    let f = c.args.given.now.fan in
    let j : ℕ = c.args.level - 1 in
    let q = c.requires.compare.fold.walk in
    let up = level-up c.args.level c.if-level-eq0.false in
    let b = walk-room q c.if-level-eq0.false in
    let ee : c.min-end.result ≡ min (c.args.place * f + f) (places_at n f j) = c.min-end.ensures ∙ ap (min (c.args.place * f + f)) (c.div_ceil.ensures ∙ ap (λ x. div_ceil x (c.args.span / f)) c.requires.count) ∙ walk-end q c.if-level-eq0.false in
    let next = c.if-not-is_next_below.ensures.next in
    let at = c.loop-child.invariant in
    let first : c.args.place * f ≤ c.min-end.result = omega (arith, ee, walk-child q j (c.args.span / f) up b) in
    let end : c.loop-child.child ≡ c.min-end.result = omega (arith, c.loop-child-test.false, c.loop-child.auto.child-end first) in
    IsFolded-above g.H.Hasher.hash c.args.given.now.cover.now c.end-digest.result c.requires.compare.fold j (c.args.span / f) c.loop-child.child c.loop-child.item c.loop-child.taken up b (end ∙ ee) next.0 next.1 at.items_at at.taken_is at.few (c.end-digest.ensures _ at.told)

pub returns-clause-same : goal.returns-clause-same
returns-clause-same g t c =
    let tree = c.digest_of-of_tree.ensures ∙ c.requires.compare.digests c.args.level c.args.place (le_refl c.args.level) (CanWalk-place c.requires.compare.fold.walk) in
    λ e. absurd (c.if-same_digests-2.ensures.apart (e ∙ sym tree))

pub returns-then-equal-clause-size : goal.returns-then-equal-clause-size
returns-then-equal-clause-size g t c = ap (λ (l : List ℕ). length l) (c.end-digest.ensures _ c.loop-child.invariant.told) ∙ g.met.H.Hasher.size _

pub returns-clause-size : goal.returns-clause-size
returns-clause-size g t c = ap (λ (l : List ℕ). length l) (c.end-digest.ensures _ c.loop-child.invariant.told) ∙ g.met.H.Hasher.size _
