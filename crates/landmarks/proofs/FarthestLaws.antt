-- The farthest of ascending ids, described by one fact.
use Rattle.std.proofs.Common.{◌≡◌, ◌↔◌, ℕ, ◌<◌, ◌≤◌, ◌==◌, inl, inr, Bool, true, false, cond, Option, None, Some, List, [], ◌∷◌, ◌++◌, refl, arith, ap, sym, ◌∙◌, subst}
use Rattle.std.specs.Prelude.{IsTrue}
use Rattle.std.specs.List.{Contains, list_any, fold}
use Rattle.std.specs.List.Sorted.{IsStrictlySortedBy}
use Rattle.std.specs.Ordering.{nat_cmp}
use Rattle.std.proofs.lemmas.List.{append_assoc, append-nil}
use Rattle.std.proofs.lemmas.List.Elements.{Contains-append_left, Contains-append_right, Contains-push_cases}
use Rattle.road_map.proofs.Among.{Contains-none, Contains-here, Contains-there}
use Rattle.book_model.specs.Landmarks.{is_farther, farther_of, considered, farthest, IsFarthest}
use Rattle.book_model.proofs.ById.{Up, all_contain, up_from_sorted}
use Rattle.landmarks.proofs.CountLaws.{all_chosen}

farther_self : (m : Option ℕ) → is_farther m m ≡ false
farther_self None = refl
farther_self (Some d) = grind arith

-- an id that is not farther than the nearer of two is not farther than the other
farther_on : (m n o : Option ℕ) → is_farther m n ≡ true → is_farther m o ≡ false → is_farther n o ≡ false
farther_on None None o on off = cc
farther_on None (Some e) o on off = cc
farther_on (Some d) None None on off = refl
farther_on (Some d) None (Some f) on off = refl
farther_on (Some d) (Some e) None on off = cc
farther_on (Some d) (Some e) (Some f) on off = grind (arith, on, off)

equally_far : (m n : Option ℕ) → is_farther m n ≡ false → is_farther n m ≡ false → m ≡ n
equally_far None None off back = refl
equally_far None (Some e) off back = cc
equally_far (Some d) None off back = cc
equally_far (Some d) (Some e) off back = let same : d ≡ e = grind (arith, off, back) in ap Some same

both : {b : Bool} → b ≡ true → b ≡ false → ⊥
both on off = let bad : true ≡ false = sym on ∙ off in cc

module _ (near : ℕ → Option ℕ) (chosen : List ℕ) where
  abbrev is_chosen : ℕ → Bool
  is_chosen u = list_any (λ c. c == u) chosen

  -- the best id so far, or none if all are chosen
  abbrev IsBest : List ℕ → Option ℕ → Type 0
  IsBest seen None = (u : ℕ) → Contains seen u → IsTrue (is_chosen u)
  IsBest seen (Some v) = IsFarthest near chosen seen v

  -- one more id, which is chosen
  chosen_comes : (seen : List ℕ) (b : Option ℕ) (x : ℕ) → IsBest seen b → is_chosen x ≡ true → IsBest (seen ++ x ∷ []) b
  chosen_comes seen None x is on = λ u c. elim (Contains-push_cases seen x u c) [ inl there ↦ is u there | inr e ↦ subst (λ w. is_chosen w ≡ true) e on ]
  chosen_comes seen (Some v) x is on = record {
    known = Contains-append_left seen (x ∷ []) v is.known;
    fresh = is.fresh;
    most = λ u c free. elim (Contains-push_cases seen x u c) [ inl there ↦ is.most u there free | inr e ↦ absurd (both (subst (λ w. is_chosen w ≡ true) e on) free) ];
    first = λ u c free same. elim (Contains-push_cases seen x u c) [ inl there ↦ is.first u there free same | inr e ↦ absurd (both (subst (λ w. is_chosen w ≡ true) e on) free) ];
  }

  -- one more id, which is not farther
  kept : (seen : List ℕ) (v x : ℕ) → IsFarthest near chosen seen v → ((s : ℕ) → Contains seen s → s < x) → is_farther (near v) (near x) ≡ false → IsFarthest near chosen (seen ++ x ∷ []) v
  kept seen v x is above off = record {
    known = Contains-append_left seen (x ∷ []) v is.known;
    fresh = is.fresh;
    most = λ u c free. elim (Contains-push_cases seen x u c) [ inl there ↦ is.most u there free | inr e ↦ subst (λ w. is_farther (near v) (near w) ≡ false) e off ];
    first = λ u c free same. elim (Contains-push_cases seen x u c) [ inl there ↦ is.first u there free same | inr e ↦ (let lt : v < x = above v is.known in omega (arith, lt, e)) ];
  }

  -- one more id, which is farther
  taken : (seen : List ℕ) (v x : ℕ) → IsFarthest near chosen seen v → is_chosen x ≡ false → is_farther (near v) (near x) ≡ true → IsFarthest near chosen (seen ++ x ∷ []) x
  taken seen v x is free on = record {
    known = Contains-append_right seen (x ∷ []) x (Contains-here x []);
    fresh = free;
    most = λ u c other. elim (Contains-push_cases seen x u c) [ inl there ↦ farther_on (near v) (near x) (near u) on (is.most u there other) | inr e ↦ subst (λ w. is_farther (near x) (near w) ≡ false) e (farther_self (near x)) ];
    first = λ u c other same. elim (Contains-push_cases seen x u c) [ inl there ↦ absurd (both (subst (λ o. is_farther (near v) o ≡ true) (sym same) on) (is.most u there other)) | inr e ↦ omega (arith, e) ];
  }

  -- the first id that may be chosen
  only : (seen : List ℕ) (x : ℕ) → ((u : ℕ) → Contains seen u → IsTrue (is_chosen u)) → is_chosen x ≡ false → IsFarthest near chosen (seen ++ x ∷ []) x
  only seen x all free = record {
    known = Contains-append_right seen (x ∷ []) x (Contains-here x []);
    fresh = free;
    most = λ u c other. elim (Contains-push_cases seen x u c) [ inl there ↦ absurd (both (all u there) other) | inr e ↦ subst (λ w. is_farther (near x) (near w) ≡ false) e (farther_self (near x)) ];
    first = λ u c other same. elim (Contains-push_cases seen x u c) [ inl there ↦ absurd (both (all u there) other) | inr e ↦ omega (arith, e) ];
  }

  fresh_comes : (seen : List ℕ) (b : Option ℕ) (x : ℕ) → IsBest seen b → ((s : ℕ) → Contains seen s → s < x) → is_chosen x ≡ false → IsBest (seen ++ x ∷ []) (farther_of near b x)
  fresh_comes seen None x is above free = only seen x is free
  fresh_comes seen (Some v) x is above free = by_test (is_farther (near v) (near x)) refl
    where
      by_test : (f : Bool) → is_farther (near v) (near x) ≡ f → IsBest (seen ++ x ∷ []) (cond f (Some x) (Some v))
      by_test true on = taken seen v x is free on
      by_test false off = kept seen v x is above off

  one_comes : (seen : List ℕ) (b : Option ℕ) (x : ℕ) → IsBest seen b → ((s : ℕ) → Contains seen s → s < x) → IsBest (seen ++ x ∷ []) (considered near chosen b x)
  one_comes seen b x is above = by_test (is_chosen x) refl
    where
      by_test : (t : Bool) → is_chosen x ≡ t → IsBest (seen ++ x ∷ []) (cond t b (farther_of near b x))
      by_test true on = chosen_comes seen b x is on
      by_test false free = fresh_comes seen b x is above free

  all_come : (xs seen : List ℕ) (b : Option ℕ) → IsBest seen b → ((s x : ℕ) → Contains seen s → Contains xs x → s < x) → Up xs → IsBest (seen ++ xs) (fold (considered near chosen) b xs)
  all_come [] seen b is below up = subst (λ (l : List ℕ). IsBest l b) (sym (append-nil seen)) is
  all_come (x ∷ xs) seen b is below up =
      subst (λ (l : List ℕ). IsBest l (fold (considered near chosen) (considered near chosen b x) xs)) (append_assoc seen (x ∷ []) xs)
      (all_come xs (seen ++ x ∷ []) (considered near chosen b x) (one_comes seen b x is (λ s c. below s x c (Contains-here x xs))) above up.1)
    where
      above : (s y : ℕ) → Contains (seen ++ x ∷ []) s → Contains xs y → s < y
      above s y c d = elim (Contains-push_cases seen x s c) [ inl there ↦ below s y there (Contains-there x y xs d) | inr e ↦ subst (λ w. w < y) e (all_contain (λ z. x < z) xs y up.0 d) ]

  best : (among : List ℕ) → IsStrictlySortedBy nat_cmp among → IsBest among (farthest near chosen among)
  best among rises = all_come among [] None (λ u c. absurd (Contains-none u c)) (λ s x c d. absurd (Contains-none s c)) (up_from_sorted among rises)

  the_one : (among : List ℕ) (b : Option ℕ) (v : ℕ) → IsBest among b → IsFarthest near chosen among v → b ≡ Some v
  the_one among None v all h = absurd (both (all v h.known) h.fresh)
  the_one among (Some w) v is h =
      let same : near w ≡ near v = equally_far (near w) (near v) (is.most v h.known h.fresh) (h.most w is.known is.fresh) in
      let below : w ≤ v = is.first v h.known h.fresh (sym same) in
      let above : v ≤ w = h.first w is.known is.fresh same in
      let e : w ≡ v = omega arith in ap Some e

  pub farthest_is : (among : List ℕ) (v : ℕ) → IsStrictlySortedBy nat_cmp among → (farthest near chosen among ≡ Some v) ↔ IsFarthest near chosen among v
  farthest_is among v rises = (λ is. subst (IsBest among) is (best among rises), λ h. the_one among (farthest near chosen among) v (best among rises) h)

  none_where_chosen : (xs : List ℕ) → ((u : ℕ) → Contains xs u → IsTrue (is_chosen u)) → farthest near chosen xs ≡ None
  none_where_chosen [] all = refl
  none_where_chosen (x ∷ xs) all = subst (λ t. fold (considered near chosen) (cond t None (Some x)) xs ≡ None) (sym (all x (Contains-here x xs))) (none_where_chosen xs (λ u c. all u (Contains-there x u xs c)))

  pub no_farthest_is : (among : List ℕ) → (farthest near chosen among ≡ None) ↔ ((u : ℕ) → Contains among u → IsTrue (is_chosen u))
  no_farthest_is among = (λ none u c. all_contain (λ x. is_chosen x ≡ true) among u (all_chosen near chosen among none) c, none_where_chosen among)
