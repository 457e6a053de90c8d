use Rattle.std.proofs.Common.{◌≡◌, ℕ, ◌+◌, ◌-◌, ◌*◌, ◌≤◌, ◌∷◌, List, length, drop}
use Rattle.std.specs.Bool.{OnTrue, OnFalse}
use Rattle.std.specs.List.{range_with_len, sum_by, flat_map}
use Rattle.merkle_cover.specs.Trees.{digest}
use Rattle.merkle_cover.specs.Covers.{need, folded, folded_in_turn}
use Rattle.merkle_cover.specs.Folding.{SplitsAt}
use Rattle.merkle_cover.proofs.ClashLemmas.{SameSoFar}
use Rattle.merkle_cover.proofs.clashes.+compare_place.Given as goal

abbrev pub decreases-compare_place : goal.decreases-compare_place
decreases-compare_place g l = l.level

abbrev pub invariant-loop-child : goal.invariant-loop-child
invariant-loop-child g l =
    let hash = g.H.Hasher.hash in
    let leaves = l.leaves in
    let n = length leaves in
    let f = l.given.fan in
    let places = l.given.places.now in
    let given = l.given.texts.now in
    let cover = l.given.cover.now in
    let j : ℕ = l.level - 1 in
    let m : ℕ = l.child - l.first in
    let a : List ℕ = folded_in_turn (need n f places j) (folded hash n f places given j) (range_with_len l.first m) (drop l.fn.taken cover) in
    record {
      told : g.H.Hasher.holds l.hasher (1 ∷ a);
      taken_is : l.taken ≡ l.fn.taken + sum_by (need n f places j) (range_with_len l.first m);
      items_at : SplitsAt places (l.child * l.below) l.item;
      few : l.taken ≤ l.child * l.below;
      size : length a ≡ 32 * m;
      same : OnTrue l.equal (SameSoFar hash leaves f places given cover j l.first m l.fn.taken l.fn.item l.item);
      apart : OnFalse l.equal (a ≡ flat_map (digest hash leaves f j) (range_with_len l.first m) → ⊥);
    }
