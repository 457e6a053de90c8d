use Rattle.std.proofs.Common.{List, ℕ, subst, sym}
use Rattle.lms_tree.specs.Links.{IsLink}
use Rattle.desk_areas.specs.Reading.{IsLinkTo}
use Rattle.desk_areas.proofs.Texts.{text_of_octets}
use Rattle.desk_areas.proofs.ReadLemmas.{some_then, none_then}
use Rattle.desk_areas.proofs.reading.read_link.Goals as goal

pub returns-clause-some : goal.returns-clause-some
returns-clause-some g c = some_then c.link_in.result _ _ c.link_in.ensures.some
    (λ key is x told. subst (λ (t : List ℕ). IsLinkTo t key) (sym (text_of_octets c.args.place x c.read_at.new.into (c.in_ok-read_at.ensures.octets x told))) is)

pub returns-clause-none : goal.returns-clause-none
returns-clause-none g c = none_then c.link_in.result _ _ c.link_in.ensures.none
    (λ isnt x told link. isnt (subst IsLink (text_of_octets c.args.place x c.read_at.new.into (c.in_ok-read_at.ensures.octets x told)) link))
