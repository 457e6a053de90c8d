use Rattle.std.proofs.Common.{◌≡◌, ◌-◌, ◌<◌, ℕ, ap, ◌∙◌, arith}
use Rattle.desk_areas.specs.Layout.{slots_of}
use Rattle.key_desk.proofs.LinkLemmas.{last_is_leaf}
use Rattle.key_desk.proofs.links.sign_link.Goals as goal

pub sign_into-requires-clause-slot : goal.sign_into-requires-clause-slot
sign_into-requires-clause-slot c =
    let slots : c.slots_of.result ≡ slots_of c.args.key.now.kind = c.slots_of.ensures.slots ∙ ap (λ (n : ℕ). slots_of n) c.kind.ensures in
    omega (arith, slots, c.saturating_sub-last.ensures, last_is_leaf c.args.key.now.kind)
