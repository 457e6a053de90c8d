use Rattle.std.proofs.Common.{◌≡◌, ◌+◌, ◌-◌, List, ℕ, take, drop, min, get_or, ◌∙◌, ap, sym, arith, subst}
use Rattle.lms_tree.specs.Links.{IsLink, link_text}
use Rattle.desk_areas.proofs.ReadLemmas.{link_split}
use Rattle.desk_areas.proofs.reading.link_in.Goals as goal

pub returns-then-is_link-clause-some : goal.returns-then-is_link-clause-some
returns-then-is_link-clause-some c =
    let n : c.min-len.result + 1 - 1 ≡ min (get_or c.args.octets.now 0 0) 126 = omega (arith, c.min-len.ensures) in
    let same : take (c.min-len.result + 1 - 1) (drop 1 c.args.octets.now) ≡ take (min (get_or c.args.octets.now 0 0) 126) (drop 1 c.args.octets.now) = ap (λ (k : ℕ). take k (drop 1 c.args.octets.now)) n in
    let link : IsLink (take (c.min-len.result + 1 - 1) (drop 1 c.args.octets.now)) = c.is_link.ensures.0 c.if-is_link.true in
    record { link = subst IsLink same link; is = sym same ∙ link_split (take (c.min-len.result + 1 - 1) (drop 1 c.args.octets.now)) link ∙ ap (λ (l : List ℕ). link_text l) (sym c.array_at.ensures) }
