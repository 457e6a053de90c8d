use Rattle.std.proofs.Common.{ℕ, List, nat_eq, slice_get, ◌∙◌, ap, subst}
use Rattle.std.specs.Option.{option_map}
use Rattle.std.specs.Map.{lookup, keys_of}
use Rattle.road_leaf.specs.declared.leaf.Extra.{Extra}
use Rattle.road_map.specs.Places.{StandsAt, AreRising}
use Rattle.road_map.proofs.Among.{place_map}
use Rattle.road_map.proofs.RisingLaws.{found}
use Rattle.method_books.specs.LdmBooks.{ById, IsById}
use Rattle.method_books.proofs.ExtraLaws.{entry_at}
use Rattle.method_books.proofs.extras.Extras.get_from.Goals as goal

pub returns-then-stands_at : goal.returns-then-stands_at
returns-then-stands_at c =
    let h : IsById c.self.inside.ids c.self.inside.entries.items = c.self.invariant in
    let at : StandsAt (λ (e : ℕ × Extra). e.0) c.self.inside.entries.items c.args.id c.args.place = subst (λ (es : List (ℕ × Extra)). StandsAt (λ (e : ℕ × Extra). e.0) es c.args.id c.args.place) c.as_slice.ensures.value (c.stands_at.ensures c.if-stands_at.true) in
    let rise : AreRising (keys_of c.self.inside.entries.items) = subst AreRising h.ids_of h.rise in
    c.extra_at.ensures ∙ (ap (λ (es : List (ℕ × Extra)). option_map (λ (e : ℕ × Extra). e.1) (slice_get es c.args.place)) c.as_slice-then-stands_at.ensures.value
    ∙ (entry_at c.self.inside.entries.items c.args.id c.args.place rise (found (keys_of c.self.inside.entries.items) c.args.id c.args.place rise (at.0.0, place_map (λ (e : ℕ × Extra). e.0) c.self.inside.entries.items c.args.place at.0 at.1, at.2))
    ∙ ap (λ (b : ById). lookup (nat_eq c.args.id) b.entries) c.self.view_is))
