use Rattle.std.proofs.Common.{◌≡◌, List, ℕ, ◌∙◌, ap, sym, subst}
use Rattle.lms_tree.specs.Links.{IsLink, link_text}
use Rattle.desk_areas.specs.Layout.{text_at}
use Rattle.desk_areas.proofs.ReadLemmas.{link_split}
use Rattle.desk_sight.proofs.sight.waiting_link.Goals as goal

pub returns-then-is_link-clause-some : goal.returns-then-is_link-clause-some
returns-then-is_link-clause-some c =
    let link : IsLink c.text_of-text.result.now = c.is_link.ensures.0 c.if-is_link.true in (
      c.if-image-place-ne0.false,
      record {
        link = subst IsLink c.text_of-text.ensures link;
        is = sym c.text_of-text.ensures ∙ link_split c.text_of-text.result.now link ∙ ap (λ (l : List ℕ). link_text l) (sym c.array_at.ensures);
      },
    )
