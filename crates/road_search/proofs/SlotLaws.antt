-- The memory of marks.
use Rattle.std.proofs.Common.{◌≡◌, ℕ, zero, suc, ◌+◌, ◌<◌, ◌==◌, Bool, true, false, cond, nat_eq, Option, None, Some, List, [], ◌∷◌, ◌++◌, length, map, take, replicate, slice_get, get_or, set, refl, ap, ◌∙◌}
use Rattle.std.specs.Option.{option_map, unwrap_or}
use Rattle.std.proofs.lemmas.List.{take_more, map-append}
use Rattle.std.proofs.lemmas.Option.{slice_get-map, slice_get-get_or}
use Rattle.road_map.proofs.Among.{slice_get-set}
use Rattle.road_search.specs.declared.marks.Mark.{Mark}
use Rattle.road_search.specs.declared.slots.Slot.{Slot}
use Rattle.road_search.specs.Marking.{marked}
use Rattle.road_search.specs.Slots.{mark_in, marked_in}

-- free slots at the end change nothing
pub free_behind : (xs : List Slot) (n : ℕ) (free : Slot) → mark_in free ≡ None → (v : ℕ) → marked_in (xs ++ replicate n free) v ≡ marked_in xs v
free_behind [] zero free none v = refl
free_behind [] (suc n) free none zero = none
free_behind [] (suc n) free none (suc v) = free_behind [] n free none v
free_behind (x ∷ xs) n free none zero = refl
free_behind (x ∷ xs) n free none (suc v) = free_behind xs n free none v

pub all_free : (n : ℕ) (free : Slot) → mark_in free ≡ None → (v : ℕ) → marked_in (replicate n free) v ≡ None
all_free zero free none v = refl
all_free (suc n) free none zero = none
all_free (suc n) free none (suc v) = all_free n free none v

-- the list of marks has the marks of the slots
pub marks_in : (xs : List Slot) (v : ℕ) → marked (map mark_in xs) v ≡ marked_in xs v
marks_in xs v = ap (λ (o : Option (Option Mark)). unwrap_or o None) (slice_get-map mark_in xs v)

by_test : (b : Bool) (new : Slot) (o : Option Slot) → unwrap_or (option_map mark_in (cond b (Some new) o)) None ≡ cond b (mark_in new) (unwrap_or (option_map mark_in o) None)
by_test true new o = refl
by_test false new o = refl

-- a slot that was given another mark
pub one_set : (xs : List Slot) (n : ℕ) (new : Slot) (v : ℕ) → n < length xs → marked_in (set xs n new) v ≡ cond (nat_eq n v) (mark_in new) (marked_in xs v)
one_set xs n new v lt = ap (λ (o : Option Slot). unwrap_or (option_map mark_in o) None) (slice_get-set xs n new v lt) ∙ by_test (n == v) new (slice_get xs v)

-- one more number
pub named_more : (f : Option Mark → Option Mark) (marks all new : List (Option Mark)) (n : ℕ) (mark : Option Mark) → n < length marks → mark ≡ f (marked marks n) → all ≡ map f (take n marks) → new ≡ all ++ mark ∷ [] → new ≡ map f (take (n + 1) marks)
named_more f marks all new n mark lt is so_far pushed =
    let here : marked marks n ≡ get_or marks n None = ap (λ (o : Option (Option Mark)). unwrap_or o None) (slice_get-get_or marks n None lt) in
    let more : take (n + 1) marks ≡ take n marks ++ get_or marks n None ∷ [] = take_more marks n None lt in
    rw (pushed, so_far, is, here, more, map-append) refl
