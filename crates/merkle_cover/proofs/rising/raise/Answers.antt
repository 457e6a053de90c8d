use Rattle.std.proofs.Common.{◌≡◌, ℕ, ◌+◌, ◌*◌, ◌/◌, ◌%◌, ◌^◌, ◌<◌, ◌≤◌, ◌⊎◌, min, List, ◌∷◌, length, take, drop, set, arith, ap, ◌∙◌, sym, subst, inl, inr}
use Rattle.std.specs.List.{flat_map}
use Rattle.std.proofs.lemmas.Bool.Decides.{nat_tests}
use Rattle.std.proofs.lemmas.Nat.{mul-le, div-add-mod'}
use Rattle.std.proofs.Math.Nat.{pow-zero, le_refl}
use Rattle.merkle_cover.specs.Shape.{top}
use Rattle.merkle_cover.specs.Rising.{end_of}
use Rattle.merkle_cover.proofs.OnItsWay.{IsOnItsWay}
use Rattle.merkle_cover.specs.Spots.{spots_of}
use Rattle.merkle_cover.specs.declared.spots.Spot.{Spot}
use Rattle.merkle_cover.proofs.ShapeLemmas.{pow-add-one}
use Rattle.merkle_cover.proofs.RisingLemmas.{closes-up, starts-up, way-begins, way-taken, way-goes-up, way-ends, way-is-whole}
use Rattle.merkle_cover.proofs.SpotLemmas.{Ranged, Ranged-spots_of}
use Rattle.merkle_cover.proofs.rising.raise.Goals as goal
use Rattle.merkle_cover.proofs.rising.raise.Goals.{else-slot-fan-via-then-slot-fan+else-not-last, else-slot-fan-via-else-slot-fan}

one-place : (p f leaf n : ℕ) → p ≡ leaf → leaf < n → (p * f ^ 0 ≤ leaf) × (end_of n f 0 p ≡ leaf + 1)
one-place p f leaf n e l =
    let one : f ^ 0 ≡ 1 = pow-zero f in
    (omega (arith, ap (λ x. p * x) one, e), omega (arith, ap (λ x. (p + 1) * x) one, e, l))

-- a slot belongs to its level
slot-fits : (k f s t size : ℕ) → s < f → k < t → size ≡ t * f → k * f + s < size
slot-fits k f s t size within under long = omega (arith, long, within, mul-le (k + 1) f t f (omega (arith, under)) (le_refl f))

-- the index of a slot
slot-at : (l k F f p : ℕ) → l ≡ k → F ≡ f → l * F + p % F ≡ k * f + p % f
slot-at l k F f p el ef = ap (λ x. x * F + p % F) el ∙ ap (λ x. k * x + p % x) ef

pub loop-level-init : goal.loop-level-init
loop-level-init g c =
    let f = c.args.outline.fan in
    let p = c.from-place.result in
    let start = one-place p f c.args.leaf c.args.outline.leaves c.from-place.ensures c.requires.leaf in
    record {
      height = omega arith;
      low = start.0;
      closes = start.1;
      same_spots = c.take.ensures.spots;
      on_its_way = λ texts places can.
          let begun = way-begins g.H.Hasher.hash texts places c.args.outline.leaves f c.args.leaf c.args.waiting.now c.args.cover.now.spots.items c.args.cover.now.digests.items c.args.lowest can in
          way-taken g.H.Hasher.hash texts places c.args.outline.leaves f c.args.leaf c.args.waiting.now c.args.cover.now.spots.items c.take.new.self.spots.items c.args.cover.now.digests.items c.take.new.self.digests.items 0 p c.args.lowest
          (omega (arith, c.requires.fan)) c.requires.leaf can.spots_are (ap (λ v. v.items) c.take.ensures.spots) start.0 start.1 c.take.ensures.taken c.take.ensures.kept
          (subst (λ x. IsOnItsWay g.H.Hasher.hash texts c.args.outline.leaves f c.args.leaf c.args.waiting.now c.args.cover.now.spots.items c.args.cover.now.digests.items 0 0 x c.args.lowest) (sym c.from-place.ensures) begun);
    }

pub returns-then-not-last-clause-raised : goal.returns-then-not-last-clause-raised
returns-then-not-last-clause-raised g c = λ texts places can.
    let f = c.args.outline.fan in
    let k = c.loop-level.level in
    let p = c.loop-level.place in
    let at = c.loop-level.invariant in
    let pos : 0 < f = omega (arith, c.requires.fan) in
    let less : p % f + 1 < f = subst (λ x. p % x + 1 < x) c.from-fan.ensures c.if-slot-fan.true in
    let inside : c.args.leaf + 1 < c.args.outline.leaves = grind (arith, nat_tests) in
    let under : k < c.args.outline.top = c.loop-level-test.true in
    let long : length c.loop-level.waiting ≡ c.args.outline.top * f = c.loop-level.auto.waiting ∙ c.requires.slots in
    let index = slot-at c.from.result k c.from-fan.result f p c.from.ensures c.from-fan.ensures in
    way-ends g.H.Hasher.hash texts c.args.outline.leaves f c.args.leaf c.loop-level.waiting _ c.loop-level.cover.spots.items c.loop-level.cover.digests.items k p (p % f) (p / f) c.loop-level.digest
    can.count pos (sym (div-add-mod' p f)) less at.low inside at.closes (omega (arith, under, c.requires.height)) (slot-fits k f (p % f) c.args.outline.top (length c.loop-level.waiting) (omega (arith, less)) under long)
    (ap (λ i. set c.loop-level.waiting i c.loop-level.digest) index) (at.on_its_way texts places can)

pub loop-level-preserved : goal.loop-level-preserved
loop-level-preserved g c =
    let f = c.args.outline.fan in
    let n = c.args.outline.leaves in
    let m = c.args.leaf in
    let k = c.loop-level.level in
    let p = c.loop-level.place in
    let at = c.loop-level.invariant in
    let pos : 0 < f = omega (arith, c.requires.fan) in
    let within : p % f < f = omega (arith, pos) in
    let under : k < c.args.outline.top = c.loop-level-test.true in
    let long : length c.loop-level.waiting ≡ c.args.outline.top * f = c.loop-level.auto.waiting ∙ c.requires.slots in
    let index = slot-at c.from.result k c.from-fan.result f p c.from.ensures c.from-fan.ensures in
    let how : (f ≤ p % f + 1) ⊎ (m + 1 ≡ n) = elim c.else-slot-fan.branch [
      | else-slot-fan-via-then-slot-fan+else-not-last w ↦ inr (grind (arith, nat_tests, w.if-not-last.false))
      | else-slot-fan-via-else-slot-fan w ↦ inl (subst (λ x. x ≤ p % x + 1) c.from-fan.ensures w.if-slot-fan.false)
    ] in
    let ep : p ≡ p / f * f + p % f = sym (div-add-mod' p f) in
    let up : p / c.from-fan.result ≡ p / f = ap (λ x. p / x) c.from-fan.ensures in
    let power : f ^ k * f ≡ f ^ (k + 1) = sym (pow-add-one f k) in
    let low : p / c.from-fan.result * f ^ (k + 1) ≤ m = subst (λ x. x * f ^ (k + 1) ≤ m) (sym up) (subst (λ x. p / f * x ≤ m) power (starts-up f (f ^ k) p (p % f) (p / f) m ep at.low)) in
    let closes : end_of n f (k + 1) (p / c.from-fan.result) ≡ m + 1 = subst (λ x. end_of n f (k + 1) x ≡ m + 1) (sym up) (subst (λ x. min n ((p / f + 1) * x) ≡ m + 1) power (closes-up n f (f ^ k) p (p % f) (p / f) m ep within at.closes how)) in
    record {
      height = omega (arith, under);
      low = low;
      closes = closes;
      same_spots = c.take-in-loop-level.ensures.spots ∙ at.same_spots;
      on_its_way = λ texts places can.
          let waiting : List (List ℕ) = set c.loop-level.waiting (c.from.result * c.from-fan.result + p % c.from-fan.result) c.loop-level.digest in
          let put : waiting ≡ set c.loop-level.waiting (k * f + p % f) c.loop-level.digest = ap (λ i. set c.loop-level.waiting i c.loop-level.digest) index in
          let from : c.from.result * c.from-fan.result ≡ k * f = ap (λ x. x * c.from-fan.result) c.from.ensures ∙ ap (λ x. k * x) c.from-fan.ensures in
          let slot : p % c.from-fan.result + 1 ≡ p % f + 1 = ap (λ x. p % x + 1) c.from-fan.ensures in
          let made : c.digest_of_pieces-digest.result ≡ g.H.Hasher.hash (1 ∷ flat_map (λ (x : List ℕ). x) (take (p % f + 1) (drop (k * f) waiting))) =
          c.digest_of_pieces-digest.ensures ∙ ap (λ (l : List (List ℕ)). g.H.Hasher.hash (1 ∷ flat_map (λ (x : List ℕ). x) l)) (c.group.ensures ∙ ap (λ x. take (p % c.from-fan.result + 1) (drop x waiting)) from ∙ ap (λ x. take x (drop (k * f) waiting)) slot) in
          let spots : c.loop-level.cover.spots.items ≡ spots_of n f places = ap (λ v. v.items) at.same_spots ∙ can.spots_are in
          let goes = way-goes-up g.H.Hasher.hash texts n f m c.loop-level.waiting waiting c.loop-level.cover.spots.items c.loop-level.cover.digests.items k p (p % f) (p / f) c.loop-level.digest c.digest_of_pieces-digest.result
          can.count pos ep within at.low c.requires.leaf at.closes how (omega (arith, under, c.requires.height)) (slot-fits k f (p % f) c.args.outline.top (length c.loop-level.waiting) within under long) put made (at.on_its_way texts places can) in
          way-taken g.H.Hasher.hash texts places n f m waiting c.loop-level.cover.spots.items c.take-in-loop-level.new.self.spots.items c.loop-level.cover.digests.items c.take-in-loop-level.new.self.digests.items (k + 1) (p / c.from-fan.result) c.digest_of_pieces-digest.result
          pos c.requires.leaf spots (ap (λ v. v.items) c.take-in-loop-level.ensures.spots) low closes c.take-in-loop-level.ensures.taken c.take-in-loop-level.ensures.kept
          (subst (λ x. IsOnItsWay g.H.Hasher.hash texts n f m waiting c.loop-level.cover.spots.items c.loop-level.cover.digests.items (k + 1) (k + 1) x c.digest_of_pieces-digest.result) (sym up) goes);
    }

pub returns-clause-raised : goal.returns-clause-raised
returns-clause-raised g c = λ texts places can.
    let f = c.args.outline.fan in
    let n = c.args.outline.leaves in
    let at = c.loop-level.invariant in
    let all = Ranged-spots_of n f places (omega (arith, c.requires.fan)) (omega (arith, c.requires.leaf)) in
    let same : c.loop-level.cover.spots.items ≡ spots_of n f places = ap (λ v. v.items) at.same_spots ∙ can.spots_are in
    let ranged : Ranged n f (top n f) 0 all.0 c.loop-level.cover.spots.items = subst (λ (ss : List Spot). Ranged n f (top n f) 0 all.0 ss) (sym same) all.1 in
    let level : c.loop-level.level ≡ top n f = omega (arith, at.height, c.loop-level-test.false, c.requires.height) in
    way-is-whole g.H.Hasher.hash texts n f c.args.leaf all.0 c.loop-level.waiting c.loop-level.cover.spots.items c.loop-level.cover.digests.items c.loop-level.level c.loop-level.place c.loop-level.digest
    can.count c.requires.fan at.low c.requires.leaf level ranged (at.on_its_way texts places can)
