use Rattle.std.proofs.Common.{◌≡◌, ◌+◌, ◌-◌, ◌*◌, ◌≤◌, ◌∷◌, drop}
use Rattle.std.specs.List.{range_with_len, sum_by}
use Rattle.merkle_cover.specs.Covers.{need, folded, folded_in_turn}
use Rattle.merkle_cover.specs.Folding.{SplitsAt}
use Rattle.merkle_cover.proofs.folds.+fold_place.Given as goal

abbrev pub decreases-fold_place : goal.decreases-fold_place
decreases-fold_place g l = l.level

abbrev pub invariant-loop-child : goal.invariant-loop-child
invariant-loop-child g l =
    let n = l.given.leaves in
    let f = l.given.fan in
    let places = l.given.places.now in
    let done = range_with_len l.first (l.child - l.first) in
    record {
      told : g.H.Hasher.holds l.hasher (1 ∷ folded_in_turn (need n f places (l.level - 1)) (folded g.H.Hasher.hash n f places l.given.texts.now (l.level - 1)) done (drop l.fn.taken l.given.cover.now));
      taken_is : l.taken ≡ l.fn.taken + sum_by (need n f places (l.level - 1)) done;
      items_at : SplitsAt places (l.child * l.below) l.item;
      few : l.taken ≤ l.child * l.below;
    }
