use Rattle.std.proofs.Common.{◌<◌, ◌^◌, ℕ, List, All, sym, subst}
use Rattle.merkle_cover.specs.Covers.{IsRising}
use Rattle.route_server.proofs.bringing.pairs_brought.Goals as goal

pub pairs_at-requires : goal.pairs_at-requires
pairs_at-requires g c = record { rising = c.requires.rising; ids = c.requires.ids }

pub cover_at-requires : goal.cover_at-requires
cover_at-requires g c = subst (λ n. IsRising n c.args.places.now) (sym c.requires.whole) c.requires.rising

pub returns : goal.returns
returns g c = record {
  places = c.in_ok-places_from.ensures;
  small = subst (λ (xs : List ℕ). All (λ n. n < 2 ^ 32) xs) (sym c.in_ok-places_from.ensures) c.numbers_fit.ensures;
  pairs = c.in_ok-pairs_at.ensures.leaves;
  one_each = c.in_ok-pairs_at.ensures.count;
  fit = c.in_ok-pairs_at.ensures.fit;
  cover = c.in_ok-cover_at.ensures;
}
