use Rattle.std.proofs.Common.{◌≡◌, ℕ, ◌+◌, ◌-◌, ◌*◌, ◌/◌, ◌≤◌, min, List, [], ◌∷◌, ◌++◌, get_or, drop, arith, ap, ◌∙◌, sym}
use Rattle.merkle_cover.specs.Shape.{places_at}
use Rattle.merkle_cover.specs.Covers.{need, folded, folded_in_turn}
use Rattle.merkle_cover.proofs.FoldLemmas.{CanWalk-wide, CanWalk-child, told-more, taken-more}
use Rattle.merkle_cover.proofs.WalkLemmas.{above-leaves, level-up, walk-fan, walk-room, walk-end, fits-first, fits-end, fits-item, given-there, room-above, walk-first, walk-child}
use Rattle.merkle_cover.proofs.ClashLemmas.{folded_text-leaf, folded_text-above}
use Rattle.merkle_cover.proofs.clashes.given_text.Goals as goal

pub overflow_cast-item : goal.overflow_cast-item
overflow_cast-item g c = fits-item c.requires.fold.walk c.requires.next.0

pub text-requires : goal.text-requires
text-requires g c = given-there c.requires.fold c.requires.next.0

pub returns-then-level-eq0 : goal.returns-then-level-eq0
returns-then-level-eq0 g c =
    let text : c.put_octets.new.out.items ≡ 0 ∷ get_or c.args.given.now.texts.now c.args.item [] =
    c.in_ok-put_octets.ensures.ok.is ∙ ap (λ (l : List ℕ). l ++ c.text.result.now) (c.in_ok-put_u8.ensures.ok.is ∙ ap (λ (l : List ℕ). l ++ 0 ∷ []) c.new-text.ensures.items) ∙ ap (λ (l : List ℕ). 0 ∷ l) c.text.ensures in
    text ∙ folded_text-leaf g.H.Hasher.hash c.requires.fold (drop c.args.taken c.args.given.now.cover.now) c.if-level-eq0.true c.requires.next.0 c.requires.next.1

pub nonzero_div-below : goal.nonzero_div-below
nonzero_div-below g c = walk-fan c.requires.fold.walk

pub overflow_mul-first : goal.overflow_mul-first
overflow_mul-first g c = fits-first c.requires.fold.walk

pub overflow_add-first : goal.overflow_add-first
overflow_add-first g c = fits-end c.requires.fold.walk

pub div_ceil-requires : goal.div_ceil-requires
div_ceil-requires g c = room-above c.requires.fold.walk c.if-level-eq0.false

pub loop-child-init : goal.loop-child-init
unfolding folded_in_turn
loop-child-init g c =
    let f = c.args.given.now.fan in
    let q = c.requires.fold.walk in
    let up = level-up c.args.level c.if-level-eq0.false in
    let b = walk-room q c.if-level-eq0.false in
    let wide = CanWalk-wide q (c.args.level - 1) (c.args.span / f) up b in
    let none : c.args.place * f - c.args.place * f ≡ 0 = omega arith in
    rw none (record {
      told = c.in_ok-put_u8-2.ensures.ok.is ∙ ap (λ (l : List ℕ). l ++ 1 ∷ []) c.new-text.ensures.items;
      taken_is = omega arith;
      items_at = walk-first q (c.args.level - 1) (c.args.span / f) up b;
      few = omega (arith, c.requires.fold.taken, ap (λ x. c.args.place * x) wide);
    })

pub overflow_sub-level : goal.overflow_sub-level
overflow_sub-level g c = above-leaves c.args.level c.if-level-eq0.false

pub fold_place-part-requires : goal.fold_place-part-requires
fold_place-part-requires g c =
    let n = c.args.given.now.leaves in
    let f = c.args.given.now.fan in
    let j : ℕ = c.args.level - 1 in
    let q = c.requires.fold.walk in
    let up = level-up c.args.level c.if-level-eq0.false in
    let b = walk-room q c.if-level-eq0.false in
    let ee : c.min-end.result ≡ min (c.args.place * f + f) (places_at n f j) = c.min-end.ensures ∙ ap (min (c.args.place * f + f)) c.div_ceil.ensures ∙ walk-end q c.if-level-eq0.false in
    record { walk = CanWalk-child q j (c.args.span / f) c.min-end.result c.loop-child.child c.loop-child.item up b ee c.loop-child-test.true c.loop-child.invariant.items_at; texts = c.requires.fold.texts; taken = c.loop-child.invariant.few }

pub loop-child-preserved : goal.loop-child-preserved
loop-child-preserved g c =
    let n = c.args.given.now.leaves in
    let f = c.args.given.now.fan in
    let places = c.args.given.now.places.now in
    let cover = c.args.given.now.cover.now in
    let j : ℕ = c.args.level - 1 in
    let h = g.H.Hasher.hash in
    let at = c.loop-child.invariant in
    let part = c.fold_place-part.ensures in
    record {
      told = c.in_ok-put_octets-2.ensures.ok.is ∙ ap (λ (l : List ℕ). l ++ c.fold_place-part.result.digest) at.told
          ∙ ap (λ (l : List ℕ). 1 ∷ l) (sym (told-more (need n f places j) (folded h n f places c.args.given.now.texts.now j) (c.args.place * f) c.loop-child.child c.args.taken c.loop-child.taken cover c.fold_place-part.result.digest c.loop-child.auto.child at.taken_is part.digest));
      taken_is = taken-more (need n f places j) (c.args.place * f) c.loop-child.child c.args.taken c.loop-child.taken c.fold_place-part.result.taken c.loop-child.auto.child at.taken_is part.taken;
      items_at = part.items;
      few = part.few;
    }

pub returns : goal.returns
returns g c =
    let n = c.args.given.now.leaves in
    let f = c.args.given.now.fan in
    let j : ℕ = c.args.level - 1 in
    let q = c.requires.fold.walk in
    let up = level-up c.args.level c.if-level-eq0.false in
    let b = walk-room q c.if-level-eq0.false in
    let ee : c.min-end.result ≡ min (c.args.place * f + f) (places_at n f j) = c.min-end.ensures ∙ ap (min (c.args.place * f + f)) c.div_ceil.ensures ∙ walk-end q c.if-level-eq0.false in
    let first : c.args.place * f ≤ c.min-end.result = omega (arith, ee, walk-child q j (c.args.span / f) up b) in
    let end : c.loop-child.child ≡ c.min-end.result = omega (arith, c.loop-child-test.false, c.loop-child.auto.child-end first) in
    c.loop-child.invariant.told ∙ folded_text-above g.H.Hasher.hash n f c.args.given.now.places.now c.args.given.now.texts.now c.args.level j c.args.place c.loop-child.child (drop c.args.taken c.args.given.now.cover.now) up (end ∙ ee)
