use Rattle.std.proofs.Common.{◌≡◌, ℕ, List, Some, slice_get, sym, subst}
use Rattle.pair_dist.proofs.finer.places_along.Goals as goal

pub loop-position-init : goal.loop-position-init
loop-position-init c =
    let same : c.in_ok-finer.finer.items ≡ c.args.places.now = c.in_ok-finer.ensures.items in
    record {
      front = λ i p at. subst (λ (xs : List ℕ). slice_get xs i ≡ Some p) (sym same) at;
      within = λ i p at. c.requires.within i p (subst (λ (xs : List ℕ). slice_get xs i ≡ Some p) same at);
    }
