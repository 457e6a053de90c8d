use Rattle.std.proofs.Common.{◌≡◌, ap, ◌∙◌, sym}
use Rattle.merkle_cover.specs.Rising.{Growth}
use Rattle.merkle_cover.proofs.RisingLemmas.{takes-all}
use Rattle.merkle_cover.proofs.rising.Rising.end.Goals as goal

pub returns-clause-cover : goal.returns-clause-cover
returns-clause-cover g c = λ fan places texts takes.
    c.from_vec.ensures ∙ c.into_digests.ensures ∙ ap (λ (r : Growth). r.cover) c.self.view_is ∙ takes-all g.H.Hasher.hash texts fan places c.args.self c.requires takes
