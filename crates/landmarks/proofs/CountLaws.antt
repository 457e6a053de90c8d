-- A map has as many landmarks as requested, up to the number of its nodes.
use Rattle.std.proofs.Common.{◌≡◌, ℕ, zero, suc, ◌+◌, ◌≤◌, ◌<◌, ◌==◌, nat_eq, Bool, true, false, cond, ◌||◌, Option, None, Some, is_some, List, [], ◌∷◌, ◌++◌, refl, arith, ap, sym, ◌∙◌, length}
use Rattle.std.specs.List.{IsDistinct, AllByRecursion, list_any, fold}
use Rattle.std.specs.Cmp.{nat_eq_equiv}
use Rattle.std.specs.Option.{option_to_list}
use Rattle.std.proofs.lemmas.List.{length-append}
use Rattle.std.proofs.lemmas.Map.Made.{length-le_from_is_member}
use Rattle.std.proofs.lemmas.Map.Views.{Contains-from_any}
use Rattle.road_map.specs.declared.parts.Parts.{Parts}
use Rattle.road_map.specs.Walks.{distance}
use Rattle.road_map.specs.Maps.{IsMap}
use Rattle.book_model.specs.Orders.{by_id}
use Rattle.book_model.specs.Landmarks.{is_farther, considered, farthest, nearest, picked}
use Rattle.book_model.specs.Books.{landmarks}
use Rattle.book_model.proofs.ById.{Up, all_contain, once, up_sorted, by_id-length}

module _ (near : ℕ → Option ℕ) (chosen : List ℕ) where
  stays : (xs : List ℕ) (u : ℕ) → is_some (fold (considered near chosen) (Some u) xs) ≡ true
  stays [] u = refl
  stays (x ∷ xs) u = by_test (list_any (λ c. c == x) chosen) (is_farther (near u) (near x)) (stays xs u) (stays xs x)
    where
      by_test : (b f : Bool) → is_some (fold (considered near chosen) (Some u) xs) ≡ true → is_some (fold (considered near chosen) (Some x) xs) ≡ true → is_some (fold (considered near chosen) (cond b (Some u) (cond f (Some x) (Some u))) xs) ≡ true
      by_test true f old new = old
      by_test false true old new = new
      by_test false false old new = old

  -- if no id is farthest, all are chosen
  pub all_chosen : (xs : List ℕ) → farthest near chosen xs ≡ None → AllByRecursion (λ x. list_any (λ c. c == x) chosen ≡ true) xs
  all_chosen [] none = tt
  all_chosen (x ∷ xs) none = by_test (list_any (λ c. c == x) chosen) refl none (all_chosen xs)
    where
      by_test : (b : Bool) → list_any (λ c. c == x) chosen ≡ b → fold (considered near chosen) (cond b None (Some x)) xs ≡ None → (farthest near chosen xs ≡ None → AllByRecursion (λ x. list_any (λ c. c == x) chosen ≡ true) xs) → (list_any (λ c. c == x) chosen ≡ true) × AllByRecursion (λ x. list_any (λ c. c == x) chosen ≡ true) xs
      by_test true e none rest = (e, rest none)
      by_test false e none rest = absurd (let bad : false ≡ true = sym (ap is_some none) ∙ stays xs x in cc)

flips : (x y : ℕ) → (x == y) ≡ nat_eq y x
flips x y = grind arith

any_flips : (x : ℕ) (chosen : List ℕ) → list_any (λ c. c == x) chosen ≡ list_any (nat_eq x) chosen
any_flips x [] = refl
any_flips x (c ∷ cs) = ap (λ b. b || list_any (λ c. c == x) cs) (flips c x) ∙ ap (λ b. nat_eq x c || b) (any_flips x cs)

same_number : (x y : ℕ) → nat_eq x y ≡ true → x ≡ y
same_number x y h = grind (arith, h)

-- distinct ids that are all chosen are at most as many as the chosen ids
few_chosen : (near : ℕ → Option ℕ) (chosen among : List ℕ) → IsDistinct nat_eq among → farthest near chosen among ≡ None → length among ≤ length chosen
few_chosen near chosen among distinct none = length-le_from_is_member nat_eq_equiv among chosen distinct (λ q any. sym (any_flips q chosen) ∙ all_contain (λ x. list_any (λ c. c == x) chosen ≡ true) among q (all_chosen near chosen among none) (Contains-from_any same_number q among any))

one_more : (o : Option ℕ) → (o ≡ None → ⊥) → length (option_to_list o) ≡ 1
one_more None some = absurd (some refl)
one_more (Some x) some = refl

picked_long : (dist : ℕ → ℕ → Option ℕ) (among : List ℕ) → IsDistinct nat_eq among → (count : ℕ) → count ≤ length among → length (picked dist among count) ≡ count
unfolding picked
picked_long dist among distinct zero le = refl
picked_long dist among distinct (suc n) le =
    let chosen : List ℕ = picked dist among n in
    let before : length (picked dist among n) ≡ n = picked_long dist among distinct n (omega (arith, le)) in
    let next : Option ℕ = farthest (nearest dist (picked dist among n)) (picked dist among n) among in
    let some : next ≡ None → ⊥ = λ none. let few : length among ≤ length (picked dist among n) = few_chosen (nearest dist (picked dist among n)) (picked dist among n) among distinct none in omega (arith, few, before, le) in
    let more : length (option_to_list next) ≡ 1 = one_more next some in
    let sum : length (picked dist among n ++ option_to_list next) ≡ length (picked dist among n) + length (option_to_list next) = length-append (picked dist among n) (option_to_list next) in
    omega (arith, sum, before, more)

apart : (x y : ℕ) → x < y → nat_eq x y ≡ false
apart x y lt = grind (arith, lt)

up_distinct : (xs : List ℕ) → Up xs → IsDistinct nat_eq xs
unfolding IsDistinct
up_distinct [] h = tt
up_distinct (x ∷ xs) h = (all_apart xs h.0, up_distinct xs h.1)
  where
    all_apart : (ys : List ℕ) → AllByRecursion (λ y. x < y) ys → AllByRecursion (λ y. nat_eq x y ≡ false) ys
    all_apart [] h = tt
    all_apart (y ∷ ys) h = (apart x y h.0, all_apart ys h.1)

-- a map has as many landmarks as requested
pub landmarks_long : (parts : Parts) (count : ℕ) → IsMap parts → count ≤ length parts.nodes → length (landmarks parts count) ≡ count
landmarks_long parts count m le = picked_long (distance parts) (by_id parts.nodes) (up_distinct (by_id parts.nodes) (up_sorted parts.nodes (once parts.nodes m.distinct))) count (omega (arith, le, by_id-length parts.nodes))
