use Rattle.std.proofs.Common.{rules, ◌≡◌, ℕ, List, ◌++◌, ◌∷◌, [], map, nat_eq, IsSome, sym, ◌∙◌, ap, subst}
use Rattle.std.specs.List.{IsDistinct, Contains}
use Rattle.std.specs.Map.{keys_of}
use Rattle.std.specs.Map.Iter.{deref_pair}
use Rattle.std.proofs.lemmas.Map.Iter.{iter_end}
use Rattle.road_search.specs.declared.marks.Mark.{Mark}
use Rattle.road_search.specs.Marking.{mark_at}
use Rattle.road_search.specs.Listing.{Listing}
use Rattle.road_search.proofs.Entries.{rising_apart}
use Rattle.road_search.proofs.NearIds.{keys_more, keys_marked}
use Rattle.road_search.proofs.listed.Listed.others.Goals as goal

pub loop-id-preserved : goal.loop-id-preserved
loop-id-preserved c =
    c.in_ok-push.ensures.items ∙ (ap (λ xs. xs ++ c.in-Some.id.now ∷ []) c.loop-id.invariant ∙ sym (keys_more deref_pair [] c.loop-id.yielded (c.in-Some.id, c.in-Some._mark)))

pub returns-clause-distinct : goal.returns-clause-distinct
returns-clause-distinct c =
    let ent : map deref_pair c.loop-id.yielded ≡ c.self.inside.others.entries = search (rules, iter_end) in
    let whole : c.loop-id.all.items ≡ keys_of c.self.inside.others.entries = c.loop-id.invariant ∙ ap (λ (es : List (ℕ × Mark)). keys_of es) ent in
    subst (IsDistinct nat_eq) (sym whole) (rising_apart _ c.iter-id-items.ensures.ordered)

pub returns-clause-all : goal.returns-clause-all
returns-clause-all c = λ id there.
    let ent : map deref_pair c.loop-id.yielded ≡ c.self.inside.others.entries = search (rules, iter_end) in
    let whole : c.loop-id.all.items ≡ keys_of c.self.inside.others.entries = c.loop-id.invariant ∙ ap (λ (es : List (ℕ × Mark)). keys_of es) ent in
    subst (λ xs. Contains xs id) (sym whole) (keys_marked c.self.inside.others.entries id (subst (λ (l : Listing). IsSome (mark_at l.others id)) (sym c.self.view_is) there))
