use Rattle.std.proofs.Common.{◌≡◌, ℕ, Option, Some, List, nat_eq, slice_get, sym, ◌∙◌, ap, subst}
use Rattle.std.specs.Option.{option_map}
use Rattle.std.specs.Map.{lookup, keys_of}
use Rattle.road_leaf.specs.declared.leaf.Extra.{Extra}
use Rattle.road_map.specs.Places.{AreRising, place_in}
use Rattle.method_books.specs.LdmBooks.{ById, IsById}
use Rattle.method_books.proofs.ExtraLaws.{entry_at, no_entry}
use Rattle.method_books.proofs.extras.Extras.get.Goals as goal

placed : (ids : List ℕ) (es : List (ℕ × Extra)) (id : ℕ) (o : Option ℕ) → IsById ids es → o ≡ place_in ids id → place_in (keys_of es) id ≡ o
placed ids es id o h is = ap (λ ks. place_in ks id) (sym h.ids_of) ∙ sym is

pub returns-in-None : goal.returns-in-None
returns-in-None c =
    let h : IsById c.self.inside.ids c.self.inside.entries.items = c.self.invariant in
    no_entry c.self.inside.entries.items c.args.id (subst AreRising h.ids_of h.rise) (placed c.self.inside.ids c.self.inside.entries.items c.args.id _ h c.in-None.ensures)
    ∙ ap (λ (b : ById). lookup (nat_eq c.args.id) b.entries) c.self.view_is

pub returns-in-Some : goal.returns-in-Some
returns-in-Some c =
    let h : IsById c.self.inside.ids c.self.inside.entries.items = c.self.invariant in
    c.extra_at.ensures ∙ (ap (λ (es : List (ℕ × Extra)). option_map (λ (e : ℕ × Extra). e.1) (slice_get es c.in-Some.place)) c.as_slice.ensures.value
    ∙ (entry_at c.self.inside.entries.items c.args.id c.in-Some.place (subst AreRising h.ids_of h.rise) (placed c.self.inside.ids c.self.inside.entries.items c.args.id (Some c.in-Some.place) h c.in-Some.ensures)
    ∙ ap (λ (b : ById). lookup (nat_eq c.args.id) b.entries) c.self.view_is))
