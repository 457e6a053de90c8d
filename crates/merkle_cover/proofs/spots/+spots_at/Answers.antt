use Rattle.std.proofs.Common.{◌≡◌, ℕ, suc, ◌+◌, ◌-◌, ◌*◌, ◌/◌, ◌<◌, ◌≤◌, min, List, [], ◌∷◌, ◌++◌, arith, ap, ◌∙◌, sym, subst, true}
use Rattle.std.specs.List.{range_with_len, flat_map}
use Rattle.std.proofs.lemmas.Grind.{common_steps}
use Rattle.std.proofs.lemmas.List.{append-nil}
use Rattle.std.proofs.Math.Nat.{one-le-pow}
use Rattle.merkle_cover.specs.Shape.{places_at}
use Rattle.merkle_cover.specs.Covers.{has_chosen}
use Rattle.merkle_cover.specs.Spots.{spots_below}
use Rattle.merkle_cover.specs.declared.spots.Spot.{Spot}
use Rattle.merkle_cover.proofs.FoldLemmas.{CanWalk-room, CanWalk-child, children-is}
use Rattle.merkle_cover.proofs.SpotLemmas.{spots_below-none, spots_below-leaf, spots_below-above}
use Rattle.merkle_cover.proofs.WalkLemmas.{child-room, child-end, walk-none, walk-some, walk-first, walk-child, walk-behind, walk-past, walk-leaf, flat_map-child}
use Rattle.merkle_cover.proofs.spots.+spots_at.Goals as goal

pub overflow_add-place : goal.overflow_add-place
overflow_add-place t c = omega (arith, (CanWalk-room c.requires).1)

pub returns-then-not-is_next_below-clause-out : goal.returns-then-not-is_next_below-clause-out
returns-then-not-is_next_below-clause-out t c =
    let spot : Spot = record { level = c.args.level; place = c.args.place } in
    let one : c.push.new.list.items ≡ c.args.out.now.items ++ spot ∷ [] = grind (arith, common_steps) in
    one
    ∙ ap (λ (l : List Spot). c.args.out.now.items ++ l) (sym (spots_below-none c.args.chosen.now.leaves c.args.chosen.now.fan c.args.chosen.now.places.now c.args.level c.args.place (walk-none c.requires c.if-not-is_next_below.ensures.past)))

pub returns-then-level-eq0-clause-out : goal.returns-then-level-eq0-clause-out
returns-then-level-eq0-clause-out t c =
    let next = c.if-not-is_next_below.ensures.next in
    sym (ap (λ (l : List Spot). c.args.out.now.items ++ l) (spots_below-leaf c.args.chosen.now.leaves c.args.chosen.now.fan c.args.chosen.now.places.now c.args.level c.args.place c.if-level-eq0.true (walk-some c.requires next.0 next.1)) ∙ append-nil c.args.out.now.items)

pub div_ceil-requires : goal.div_ceil-requires
div_ceil-requires t c =
    let f = c.args.chosen.now.fan in
    let fan : 0 < f = omega (arith, c.requires.fan) in
    omega (arith, child-room f c.args.level c.args.span fan (omega (arith, c.if-level-eq0.false)) c.requires.span, one-le-pow (c.args.level - 1) f fan)

pub loop-child-init : goal.loop-child-init
loop-child-init t c =
    let f = c.args.chosen.now.fan in
    let b = child-room f c.args.level c.args.span (omega (arith, c.requires.fan)) (omega (arith, c.if-level-eq0.false)) c.requires.span in
    let none : c.args.place * f - c.args.place * f ≡ 0 = omega arith in
    rw none (record {
      items_at = walk-first c.requires (c.args.level - 1) (c.args.span / f) (omega (arith, c.if-level-eq0.false)) b;
      out_is = sym (append-nil c.args.out.now.items);
    })

pub spots_at-requires : goal.spots_at-requires
spots_at-requires t c =
    let n = c.args.chosen.now.leaves in
    let f = c.args.chosen.now.fan in
    let j : ℕ = c.args.level - 1 in
    let fan : 0 < f = omega (arith, c.requires.fan) in
    let b = child-room f c.args.level c.args.span fan (omega (arith, c.if-level-eq0.false)) c.requires.span in
    let ee : c.min-end.result ≡ min (c.args.place * f + f) (places_at n f j) = c.min-end.ensures ∙ ap (min (c.args.place * f + f)) c.div_ceil.ensures ∙ child-end n f j c.args.place (c.args.span / f) fan b in (
      omega (arith, c.decreases, c.if-level-eq0.false),
      CanWalk-child c.requires j (c.args.span / f) c.min-end.result c.loop-child.child c.loop-child.item (omega (arith, c.if-level-eq0.false)) b ee c.loop-child-test.true c.loop-child.invariant.items_at,
    )

pub loop-child-preserved : goal.loop-child-preserved
loop-child-preserved t c =
    let f = c.args.chosen.now.fan in
    let g = spots_below c.args.chosen.now.leaves f c.args.chosen.now.places.now (c.args.level - 1) in
    record {
      items_at = c.in_ok-item.ensures.next;
      out_is = c.in_ok-item.ensures.out ∙ flat_map-child g (c.args.place * f) c.loop-child.child c.args.out.now.items c.loop-child.out.items c.loop-child.auto.child c.loop-child.invariant.out_is;
    }

pub returns-clause-next : goal.returns-clause-next
returns-clause-next t c =
    let n = c.args.chosen.now.leaves in
    let f = c.args.chosen.now.fan in
    let j : ℕ = c.args.level - 1 in
    let fan : 0 < f = omega (arith, c.requires.fan) in
    let up : c.args.level ≡ suc j = omega (arith, c.if-level-eq0.false) in
    let b = child-room f c.args.level c.args.span fan (omega (arith, c.if-level-eq0.false)) c.requires.span in
    let ee : c.min-end.result ≡ min (c.args.place * f + f) (places_at n f j) = c.min-end.ensures ∙ ap (min (c.args.place * f + f)) c.div_ceil.ensures ∙ child-end n f j c.args.place (c.args.span / f) fan b in
    let first : c.args.place * f ≤ c.min-end.result = omega (arith, ee, walk-child c.requires j (c.args.span / f) up b) in
    let end : c.loop-child.child ≡ c.min-end.result = omega (arith, c.loop-child-test.false, c.loop-child.auto.child-end first) in
    walk-behind c.requires j (c.args.span / f) c.loop-child.child c.loop-child.item up b (end ∙ ee) c.loop-child.invariant.items_at

pub returns-clause-out : goal.returns-clause-out
returns-clause-out t c =
    let n = c.args.chosen.now.leaves in
    let f = c.args.chosen.now.fan in
    let places = c.args.chosen.now.places.now in
    let j : ℕ = c.args.level - 1 in
    let fan : 0 < f = omega (arith, c.requires.fan) in
    let up : c.args.level ≡ suc j = omega (arith, c.if-level-eq0.false) in
    let b = child-room f c.args.level c.args.span fan (omega (arith, c.if-level-eq0.false)) c.requires.span in
    let ee : c.min-end.result ≡ min (c.args.place * f + f) (places_at n f j) = c.min-end.ensures ∙ ap (min (c.args.place * f + f)) c.div_ceil.ensures ∙ child-end n f j c.args.place (c.args.span / f) fan b in
    let first : c.args.place * f ≤ c.min-end.result = omega (arith, ee, walk-child c.requires j (c.args.span / f) up b) in
    let end : c.loop-child.child ≡ c.min-end.result = omega (arith, c.loop-child-test.false, c.loop-child.auto.child-end first) in
    let next = c.if-not-is_next_below.ensures.next in
    let some : has_chosen f places (suc j) c.args.place ≡ true = subst (λ x. has_chosen f places x c.args.place ≡ true) up (walk-some c.requires next.0 next.1) in
    let kids = children-is n f j c.args.place c.loop-child.child (end ∙ ee) in
    let whole : spots_below n f places c.args.level c.args.place ≡ flat_map (spots_below n f places j) (range_with_len (c.args.place * f) (c.loop-child.child - c.args.place * f)) =
    ap (λ x. spots_below n f places x c.args.place) up ∙ spots_below-above n f places j c.args.place some ∙ ap (flat_map (spots_below n f places j)) kids in
    c.loop-child.invariant.out_is ∙ ap (λ (l : List Spot). c.args.out.now.items ++ l) (sym whole)
