use Rattle.std.proofs.Common.{◌≡◌, ◌+◌, ◌≤◌, List, ℕ, take, drop, arith, sym, ◌∙◌, ap}
use Rattle.std.proofs.lemmas.List.{take-take}
use Rattle.desk_areas.proofs.Texts.{text_of_octets}
use Rattle.desk_areas.proofs.finding.read_text.Goals as goal

pub returns-clause-text : goal.returns-clause-text
returns-clause-text g c x told =
    let read : c.read_at.new.into ≡ take 127 (drop (c.args.place + 1) x) = c.in_ok-read_at.ensures.octets x told in
    let short : c.min-len.result ≤ 126 = omega (arith, c.min-len.ensures) in
    text_of_octets c.args.place x c.read_at.new.into read
    ∙ ap (λ (k : ℕ). take k (drop 1 c.read_at.new.into)) (sym c.min-len.ensures)
    ∙ sym (take-take c.min-len.result 126 (drop 1 c.read_at.new.into) short)
    ∙ ap (λ (l : List ℕ). take c.min-len.result l) (sym c.copy_from_slice.ensures.after)
