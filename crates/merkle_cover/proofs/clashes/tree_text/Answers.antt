use Rattle.std.proofs.Common.{◌≡◌, ℕ, ◌+◌, ◌-◌, ◌*◌, ◌/◌, ◌<◌, ◌≤◌, min, List, [], ◌∷◌, ◌++◌, length, get_or, arith, ap, ◌∙◌}
use Rattle.std.specs.Int.{div_ceil}
use Rattle.merkle_cover.specs.Shape.{places_at}
use Rattle.merkle_cover.specs.Trees.{digest}
use Rattle.merkle_cover.proofs.WalkLemmas.{above-leaves, level-up, one-below, fan-divides, child-end, flat_map-child, child-there}
use Rattle.merkle_cover.proofs.ClashLemmas.{hashed_text-leaf, hashed_text-above, CanRead-small, CanRead-fits, CanRead-there, CanRead-room, CanRead-above}
use Rattle.merkle_cover.proofs.clashes.tree_text.Goals as goal

pub returns-then-level-eq0 : goal.returns-then-level-eq0
returns-then-level-eq0 g c =
    let text : c.put_octets.new.out.items ≡ 0 ∷ get_or c.args.leaves.now c.args.place [] =
    c.in_ok-put_octets.ensures.ok.is ∙ ap (λ (l : List ℕ). l ++ c.text.result.now) (c.in_ok-put_u8.ensures.ok.is ∙ ap (λ (l : List ℕ). l ++ 0 ∷ []) c.new-text.ensures.items) ∙ ap (λ (l : List ℕ). 0 ∷ l) c.text.ensures in
    text ∙ hashed_text-leaf g.H.Hasher.hash c.args.leaves.now c.args.fan c.args.level c.args.place c.if-level-eq0.true

pub overflow_cast-place : goal.overflow_cast-place
overflow_cast-place g c = (CanRead-fits c.requires).0

pub text-requires : goal.text-requires
text-requires g c = CanRead-there c.requires

pub overflow_mul-first : goal.overflow_mul-first
overflow_mul-first g c = (CanRead-fits c.requires).1

pub overflow_add-first : goal.overflow_add-first
overflow_add-first g c = (CanRead-fits c.requires).2

pub nonzero_div-span : goal.nonzero_div-span
nonzero_div-span g c = fan-divides c.args.fan c.requires.fan

pub div_ceil-requires : goal.div_ceil-requires
div_ceil-requires g c = CanRead-above c.requires c.if-level-eq0.false

pub loop-child-init : goal.loop-child-init
loop-child-init g c =
    let none : c.args.place * c.args.fan - c.args.place * c.args.fan ≡ 0 = omega arith in
    rw none (c.in_ok-put_u8-2.ensures.ok.is ∙ ap (λ (l : List ℕ). l ++ 1 ∷ []) c.new-text.ensures.items)

pub overflow_sub-level : goal.overflow_sub-level
overflow_sub-level g c = above-leaves c.args.level c.if-level-eq0.false

pub digest_of-digest-requires-clause-level : goal.digest_of-digest-requires-clause-level
digest_of-digest-requires-clause-level g c = c.requires.levels_in.levels_in (c.args.level - 1) (one-below c.args.level)

pub digest_of-digest-requires-clause-place : goal.digest_of-digest-requires-clause-place
digest_of-digest-requires-clause-place g c =
    let n = length c.args.leaves.now in
    let f = c.args.fan in
    let j : ℕ = c.args.level - 1 in
    let fan = fan-divides f c.requires.fan in
    let b = CanRead-room c.requires c.if-level-eq0.false in
    let ee : c.min-end.result ≡ min (c.args.place * f + f) (places_at n f j) = c.min-end.ensures ∙ ap (min (c.args.place * f + f)) (c.div_ceil.ensures ∙ ap (λ x. div_ceil x (c.args.span / f)) (c.from.ensures ∙ c.count.ensures)) ∙ child-end n f j c.args.place (c.args.span / f) fan b in
    omega (arith, ee, c.loop-child-test.true, c.requires.levels_in.sizes j (one-below c.args.level))

pub loop-child-preserved : goal.loop-child-preserved
loop-child-preserved g c =
    let n = length c.args.leaves.now in
    let f = c.args.fan in
    let j : ℕ = c.args.level - 1 in
    let fan = fan-divides f c.requires.fan in
    let b = CanRead-room c.requires c.if-level-eq0.false in
    let ee : c.min-end.result ≡ min (c.args.place * f + f) (places_at n f j) = c.min-end.ensures ∙ ap (min (c.args.place * f + f)) (c.div_ceil.ensures ∙ ap (λ x. div_ceil x (c.args.span / f)) (c.from.ensures ∙ c.count.ensures)) ∙ child-end n f j c.args.place (c.args.span / f) fan b in
    let d = digest g.H.Hasher.hash c.args.leaves.now f j in
    let one : c.digest_of-digest.result ≡ d c.loop-child.child = c.digest_of-digest.ensures ∙ c.requires.digests j c.loop-child.child (one-below c.args.level) (omega (arith, ee, c.loop-child-test.true)) in
    c.in_ok-put_octets-2.ensures.ok.is ∙ ap (λ (l : List ℕ). c.loop-child.text.items ++ l) one ∙ flat_map-child d (c.args.place * f) c.loop-child.child (1 ∷ []) c.loop-child.text.items c.loop-child.auto.child c.loop-child.invariant

pub returns : goal.returns
returns g c =
    let n = length c.args.leaves.now in
    let f = c.args.fan in
    let j : ℕ = c.args.level - 1 in
    let fan = fan-divides f c.requires.fan in
    let up = level-up c.args.level c.if-level-eq0.false in
    let b = CanRead-room c.requires c.if-level-eq0.false in
    let ee : c.min-end.result ≡ min (c.args.place * f + f) (places_at n f j) = c.min-end.ensures ∙ ap (min (c.args.place * f + f)) (c.div_ceil.ensures ∙ ap (λ x. div_ceil x (c.args.span / f)) (c.from.ensures ∙ c.count.ensures)) ∙ child-end n f j c.args.place (c.args.span / f) fan b in
    let some : c.args.place * f < places_at n f j = child-there n f j c.args.level c.args.place fan up (CanRead-small c.requires).2 in
    let first : c.args.place * f ≤ c.min-end.result = omega (arith, ee, some) in
    let end : c.loop-child.child ≡ c.min-end.result = omega (arith, c.loop-child-test.false, c.loop-child.auto.child-end first) in
    c.loop-child.invariant ∙ hashed_text-above g.H.Hasher.hash c.args.leaves.now f c.args.level j c.args.place c.loop-child.child up (end ∙ ee)
