-- The nodes whose leaves are gathered.
use Rattle.std.proofs.Common.{◌≡◌, ℕ, ◌+◌, ◌<◌, ◌≤◌, ◌^◌, ◌↔◌, Bool, true, false, IsTrue, Option, None, Some, IsSome, List, [], ◌∷◌, ◌++◌, ◌⊎◌, inl, inr, refl, arith, ap, sym, ◌∙◌, subst, length, take, get_or}
use Rattle.std.specs.List.{Contains, filter_map, cons_option}
use Rattle.std.specs.Option.{option_to_list}
use Rattle.std.proofs.lemmas.List.{append_assoc, take_more, take_all}
use Rattle.std.proofs.lemmas.List.Elements.{Contains-append_left, Contains-append_right, Contains-append_cases}
use Rattle.road_map.specs.declared.parts.Node.{Node}
use Rattle.road_map.specs.declared.parts.Parts.{Parts}
use Rattle.road_map.specs.Maps.{IsById}
use Rattle.road_map.specs.Walks.{Knows}
use Rattle.road_map.proofs.Among.{Contains-none, Contains-here, Contains-cases}
use Rattle.road_search.specs.Nearness.{is_within}
use Rattle.road_leaf.specs.declared.leaf.Extra.{Extra}
use Rattle.proof_method.specs.Gathering.{Lists}
use Rattle.book_model.proofs.ById.{ids_kept}
use Rattle.proof_method.proofs.Picks.{picked_from, picked_to}
use Rattle.method_books.specs.LdmBooks.{reference_in, IsNear, IsNeeded}

-- ---- known ids among some, one more at a time

pub never_both : (b : Bool) → b ≡ true → b ≡ false → ⊥
never_both b holds fails = cc

-- the contents of a list, given by other lists that are equal
pub renamed : (P : ℕ → Type 0) (found start near start' near' : List ℕ) → start ≡ start' → near ≡ near' → ((id : ℕ) → Contains found id ↔ (Contains start id ⊎ (Contains near id × P id))) → (id : ℕ) → Contains found id ↔ (Contains start' id ⊎ (Contains near' id × P id))
renamed P found start near start' near' e f has =
    subst (λ (xs : List ℕ). (id : ℕ) → Contains found id ↔ (Contains xs id ⊎ (Contains near' id × P id))) e
    (subst (λ (ys : List ℕ). (id : ℕ) → Contains found id ↔ (Contains start id ⊎ (Contains ys id × P id))) f has)

module _ (P : ℕ → Type 0) (start near : List ℕ) where
  -- the contents of the list at the start, and those of the first ids for which the fact holds
  abbrev pub HasFirst : ℕ → List ℕ → Type 0
  HasFirst k found = (id : ℕ) → Contains found id ↔ (Contains start id ⊎ (Contains (take k near) id × P id))

  pub none_yet : HasFirst 0 start
  none_yet id = (inl, λ h. elim h [ inl c ↦ c | inr c ↦ absurd (Contains-none id c.0) ])

  next : (k : ℕ) → k < length near → take (k + 1) near ≡ take k near ++ get_or near k 0 ∷ []
  next k lt = take_more near k 0 lt

  longer : (k id : ℕ) → k < length near → Contains (take k near) id → Contains (take (k + 1) near) id
  longer k id lt c = subst (λ xs. Contains xs id) (sym (next k lt)) (Contains-append_left (take k near) (get_or near k 0 ∷ []) id c)

  last : (k : ℕ) → k < length near → Contains (take (k + 1) near) (get_or near k 0)
  last k lt = subst (λ xs. Contains xs (get_or near k 0)) (sym (next k lt)) (Contains-append_right (take k near) (get_or near k 0 ∷ []) (get_or near k 0) (Contains-here (get_or near k 0) []))

  parted : (k id : ℕ) → k < length near → Contains (take (k + 1) near) id → Contains (take k near) id ⊎ (get_or near k 0 ≡ id)
  parted k id lt c = elim (Contains-append_cases (take k near) (get_or near k 0 ∷ []) id (subst (λ xs. Contains xs id) (next k lt) c)) [
    | inl h ↦ inl h
    | inr h ↦ elim (Contains-cases (get_or near k 0) id [] h) [ inl e ↦ inr e | inr n ↦ absurd (Contains-none id n) ]
  ]

  pub one_known : (k : ℕ) (before after : List ℕ) → k < length near → P (get_or near k 0) → after ≡ before ++ get_or near k 0 ∷ [] → HasFirst k before → HasFirst (k + 1) after
  one_known k before after lt holds pushed so_far id = (from, to)
    where
      from : Contains after id → Contains start id ⊎ (Contains (take (k + 1) near) id × P id)
      from c = elim (Contains-append_cases before (get_or near k 0 ∷ []) id (subst (λ xs. Contains xs id) pushed c)) [
        | inl h ↦ elim ((so_far id).0 h) [ inl s ↦ inl s | inr t ↦ inr (longer k id lt t.0, t.1) ]
        | inr h ↦ elim (Contains-cases (get_or near k 0) id [] h) [
          | inl e ↦ inr (subst (Contains (take (k + 1) near)) e (last k lt), subst P e holds)
          | inr n ↦ absurd (Contains-none id n)
        ]
      ]

      left : Contains before id → Contains after id
      left c = subst (λ xs. Contains xs id) (sym pushed) (Contains-append_left before (get_or near k 0 ∷ []) id c)

      to : Contains start id ⊎ (Contains (take (k + 1) near) id × P id) → Contains after id
      to (inl s) = left ((so_far id).1 (inl s))
      to (inr t) = elim (parted k id lt t.0) [
        | inl h ↦ left ((so_far id).1 (inr (h, t.1)))
        | inr e ↦ subst (λ xs. Contains xs id) (sym pushed) (Contains-append_right before (get_or near k 0 ∷ []) id (subst (Contains (get_or near k 0 ∷ [])) e (Contains-here (get_or near k 0) [])))
      ]

  pub one_unknown : (k : ℕ) (before : List ℕ) → k < length near → ¬ P (get_or near k 0) → HasFirst k before → HasFirst (k + 1) before
  one_unknown k before lt fails so_far id = (from, to)
    where
      from : Contains before id → Contains start id ⊎ (Contains (take (k + 1) near) id × P id)
      from c = elim ((so_far id).0 c) [ inl s ↦ inl s | inr t ↦ inr (longer k id lt t.0, t.1) ]

      to : Contains start id ⊎ (Contains (take (k + 1) near) id × P id) → Contains before id
      to (inl s) = (so_far id).1 (inl s)
      to (inr t) = elim (parted k id lt t.0) [
        | inl h ↦ (so_far id).1 (inr (h, t.1))
        | inr e ↦ absurd (fails (subst P (sym e) t.1))
      ]

  pub all_known : (k : ℕ) (found : List ℕ) → length near ≤ k → HasFirst k found → (id : ℕ) → Contains found id ↔ (Contains start id ⊎ (Contains near id × P id))
  all_known k found whole so_far = subst (λ xs. (id : ℕ) → Contains found id ↔ (Contains start id ⊎ (Contains xs id × P id))) (take_all k near whole) so_far

-- ---- references, one more at a time

one_more : (f : ℕ → Option ℕ) (xs : List ℕ) (x : ℕ) → filter_map f (xs ++ x ∷ []) ≡ filter_map f xs ++ option_to_list (f x)
one_more f [] x = by_option (f x)
  where
    by_option : (o : Option ℕ) → cons_option o [] ≡ option_to_list o
    by_option None = refl
    by_option (Some y) = refl
one_more f (z ∷ zs) x = by_option (f z) (one_more f zs x)
  where
    by_option : (o : Option ℕ) → filter_map f (zs ++ x ∷ []) ≡ filter_map f zs ++ option_to_list (f x) → cons_option o (filter_map f (zs ++ x ∷ [])) ≡ cons_option o (filter_map f zs) ++ option_to_list (f x)
    by_option None h = h
    by_option (Some y) h = ap (λ ys. y ∷ ys) h

pub one_referred : (f : ℕ → Option ℕ) (xs : List ℕ) (k : ℕ) (start before after : List ℕ) → k < length xs → before ≡ start ++ filter_map f (take k xs) → after ≡ before ++ option_to_list (f (get_or xs k 0)) → after ≡ start ++ filter_map f (take (k + 1) xs)
one_referred f xs k start before after lt so_far pushed =
    let front : List ℕ = filter_map f (take k xs) in
    let last : List ℕ = option_to_list (f (get_or xs k 0)) in
    let more : filter_map f (take (k + 1) xs) ≡ front ++ last = ap (filter_map f) (take_more xs k 0 lt) ∙ one_more f (take k xs) (get_or xs k 0) in
    pushed ∙ (ap (λ ys. ys ++ last) so_far ∙ (append_assoc start front last ∙ ap (λ ys. start ++ ys) (sym more)))

-- ---- all ids that are needed

-- a length that is a 64-bit number is at most the greatest of these
within_all : (o : Option ℕ) → ((d : ℕ) → o ≡ Some d → d < 2 ^ 64) → IsSome o → IsTrue (is_within 18446744073709551615 o)
within_all None low some = cc
within_all (Some d) low some = let lt : d < 2 ^ 64 = low d refl in grind arith

some_within : (o : Option ℕ) → IsTrue (is_within 18446744073709551615 o) → IsSome o
some_within None h = cc
some_within (Some d) h = refl

module _ (parts : Parts) (order : List Node) (by : IsById parts.nodes order) (entries : List (ℕ × Extra)) (route : List ℕ) (len : ℕ → Option ℕ) (low : (v d : ℕ) → len v ≡ Some d → d < 2 ^ 64) where
  module _ (near base : List ℕ) (reached : (id : ℕ) → Contains near id ↔ IsTrue (is_within 18446744073709551615 (len id))) (kept : (id : ℕ) → Contains base id ↔ (Contains route id ⊎ (Contains near id × Knows parts id))) where
    base_from : (id : ℕ) → Contains base id → IsNear order route len id
    base_from id c = elim ((kept id).0 c) [
      | inl h ↦ inl h
      | inr h ↦ inr (ids_kept parts.nodes order (λ n. (by.same n).0) id h.1, some_within (len id) ((reached id).0 h.0))
    ]

    base_to : (id : ℕ) → IsNear order route len id → Contains base id
    base_to id (inl h) = (kept id).1 (inl h)
    base_to id (inr h) = (kept id).1 (inr ((reached id).1 (within_all (len id) (low id) h.1), ids_kept order parts.nodes (λ n. (by.same n).1) id h.0))

    all_from : (id : ℕ) → Contains (base ++ filter_map (reference_in entries) base) id → IsNeeded order entries route len id
    all_from id c = elim (Contains-append_cases base (filter_map (reference_in entries) base) id c) [
      | inl h ↦ inl (base_from id h)
      | inr h ↦ (let p : (u : ℕ) × Contains base u × (reference_in entries u ≡ Some id) = picked_from (reference_in entries) base id h in inr (p.0, base_from p.0 p.1, p.2))
    ]

    all_to : (id : ℕ) → IsNeeded order entries route len id → Contains (base ++ filter_map (reference_in entries) base) id
    all_to id (inl h) = Contains-append_left base (filter_map (reference_in entries) base) id (base_to id h)
    all_to id (inr h) = Contains-append_right base (filter_map (reference_in entries) base) id (picked_to (reference_in entries) base h.0 id (base_to h.0 h.1) h.2)

    pub all_needed : (all found : List ℕ) → all ≡ base ++ filter_map (reference_in entries) base → Lists (Contains all) found → Lists (IsNeeded order entries route len) found
    all_needed all found made lists = record {
      rising = lists.rising;
      same = λ id. (
        λ c. all_from id (subst (λ xs. Contains xs id) made ((lists.same id).0 c)),
        λ n. (lists.same id).1 (subst (λ xs. Contains xs id) (sym made) (all_to id n)),
      );
    }
