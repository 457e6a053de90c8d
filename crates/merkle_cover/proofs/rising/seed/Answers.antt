use Rattle.std.proofs.Common.{◌≡◌, arith, ap, ◌∙◌, sym, refl}
use Rattle.merkle_cover.proofs.RisingLemmas.{takes-nothing}
use Rattle.merkle_cover.proofs.rising.seed.Goals as goal

pub returns-clause-takes : goal.returns-clause-takes
returns-clause-takes g c = λ texts count.
    takes-nothing g.H.Hasher.hash texts c.args.fan c.args.places.now _ c.requires.fan c.requires.leaves count refl refl
    (ap (λ v. v.items) c.in_ok-cover.ensures.spots ∙ c.in_ok-spots.ensures) c.in_ok-cover.ensures.none
