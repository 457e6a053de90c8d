use Rattle.std.proofs.Common.{ℕ, List, sym, ◌∙◌, ap, subst}
use Rattle.std.specs.Map.{keys_of}
use Rattle.road_leaf.specs.declared.leaf.Extra.{Extra}
use Rattle.road_map.specs.Places.{AreRising}
use Rattle.method_books.proofs.ExtraLaws.{keys_rise}
use Rattle.method_books.proofs.extras.Extras.new.Goals as goal

pub new-requires : goal.new-requires
new-requires c = subst AreRising (sym (c.in_ok-rising.ensures ∙ ap (λ (es : List (ℕ × Extra)). keys_of es) c.as_slice.ensures.value)) (keys_rise c.in_ok-entries.entries.items c.in_ok-entries.ensures.sorted c.in_ok-entries.ensures.distinct)

pub invariant_of-result : goal.invariant_of-result
invariant_of-result c =
    let ids = c.in_ok-ids.ensures ∙ c.in_ok-rising.ensures ∙ ap (λ (es : List (ℕ × Extra)). keys_of es) c.as_slice.ensures.value in
    record { rise = subst AreRising (sym ids) (keys_rise c.in_ok-entries.entries.items c.in_ok-entries.ensures.sorted c.in_ok-entries.ensures.distinct); ids_of = ids }
