use Rattle.std.proofs.Common.{◌≡◌, ◌+◌, take, drop, ◌∙◌, sym}
use Rattle.desk_areas.proofs.Texts.{text_of_octets}
use Rattle.desk_areas.proofs.finding.has_text.Goals as goal

pub returns-clause-yes : goal.returns-clause-yes
returns-clause-yes g c is x told =
    let read : c.read_at.new.into ≡ take 127 (drop (c.args.place + 1) x) = c.in_ok-read_at.ensures.octets x told in
    text_of_octets c.args.place x c.read_at.new.into read ∙ c.same_text.ensures.0 is

pub returns-clause-no : goal.returns-clause-no
returns-clause-no g c isnt x told same =
    let read : c.read_at.new.into ≡ take 127 (drop (c.args.place + 1) x) = c.in_ok-read_at.ensures.octets x told in
    let is = c.same_text.ensures.1 (sym (text_of_octets c.args.place x c.read_at.new.into read) ∙ same) in
    absurd (cc (is, isnt))
