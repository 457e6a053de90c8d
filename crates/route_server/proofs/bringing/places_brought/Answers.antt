use Rattle.std.proofs.Common.{◌<◌, ◌^◌, ℕ, List, All, length, ap, sym, subst, ◌∙◌}
use Rattle.merkle_cover.specs.Covers.{IsRising, cover_of}
use Rattle.route_server.proofs.bringing.places_brought.Goals as goal

pub cover-requires : goal.cover-requires
cover-requires g c = subst (IsRising (length c.args.tree.now.texts)) (sym c.deref.ensures.value) c.requires

pub returns : goal.returns
returns g c = record {
  places = c.from_vec.ensures;
  small = subst (λ (xs : List ℕ). All (λ n. n < 2 ^ 32) xs) (c.deref-2.ensures.value ∙ sym c.from_vec.ensures) c.numbers_fit.ensures;
  cover = c.in_ok-cover.ensures ∙ ap (cover_of g.H.Hasher.hash c.args.tree.now.texts c.args.tree.now.fan) c.deref.ensures.value;
}
