use Rattle.std.proofs.Common.{◌≡◌, ℕ, ◌+◌, ◌-◌, ◌*◌, ◌^◌, ◌≤◌, List}
use Rattle.merkle_cover.specs.Rising.{end_of}
use Rattle.merkle_cover.specs.Raising.{CanRaise}
use Rattle.merkle_cover.proofs.OnItsWay.{IsOnItsWay}
use Rattle.merkle_cover.proofs.rising.raise.Given as goal

abbrev pub invariant-loop-level : goal.invariant-loop-level
invariant-loop-level g l = record {
  height : l.level ≤ l.outline.top;
  low : l.place * l.outline.fan ^ l.level ≤ l.leaf;
  closes : end_of l.outline.leaves l.outline.fan l.level l.place ≡ l.leaf + 1;
  same_spots : l.cover.spots ≡ l.fn.cover.spots;
  on_its_way : (texts : List (List ℕ)) (places : List ℕ)
      → CanRaise g.H.Hasher.hash texts places l.outline.leaves l.outline.fan l.leaf l.fn.waiting l.fn.cover.spots.items l.fn.cover.digests.items l.fn.lowest
      → IsOnItsWay g.H.Hasher.hash texts l.outline.leaves l.outline.fan l.leaf l.waiting l.cover.spots.items l.cover.digests.items l.level (l.level + 1) l.place l.digest;
}

abbrev pub decreases-loop-level : goal.decreases-loop-level
decreases-loop-level g l = l.outline.top - l.level
