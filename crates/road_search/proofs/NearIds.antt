-- Ids that pass a test, among those that may have a mark.
use Rattle.std.proofs.Common.{◌≡◌, ℕ, zero, suc, ◌+◌, ◌<◌, ◌≤◌, nat_eq, Bool, true, false, cond, Option, None, Some, IsSome, is_some, List, [], ◌∷◌, ◌++◌, inl, inr, map, length, get_or, take, refl, arith, ap, sym, ◌∙◌, subst}
use Rattle.std.specs.List.{filter, IsDistinct, Contains, AllByRecursion}
use Rattle.std.specs.Map.{keys_of}
use Rattle.std.specs.Option.{option_map}
use Rattle.std.proofs.lemmas.Bool.{cases_lt}
use Rattle.std.proofs.lemmas.List.{map-append, append-nil, take_all}
use Rattle.std.proofs.Common.{append_assoc}
use Rattle.std.proofs.lemmas.List.Elements.{filter_more, Contains-append_cases}
use Rattle.std.proofs.lemmas.Map.Keys.{IsDistinct-cons, IsDistinct-head, IsDistinct-tail}
use Rattle.std.proofs.lemmas.Map.Views.{Contains-keys_from_lookup}
use Rattle.road_map.proofs.Among.{Contains-none, Contains-here, Contains-there, Contains-cases}
use Rattle.road_search.specs.declared.label.Label.{Label}
use Rattle.road_search.specs.declared.marks.Mark.{Mark}
use Rattle.road_search.specs.Marking.{mark_at}
use Rattle.road_search.specs.Nearness.{is_within}

same_number : (x y : ℕ) → nat_eq x y ≡ true → x ≡ y
same_number x y h = grind (arith, h)

-- ---- all ids that may have a mark

-- one more key
pub keys_more : {A : Type 0} (shows : A → ℕ × Mark) (start : List ℕ) (ys : List A) (x : A) → start ++ keys_of (map shows (ys ++ x ∷ [])) ≡ (start ++ keys_of (map shows ys)) ++ (shows x).0 ∷ []
keys_more shows start ys x =
    ap (λ t. start ++ t) (ap keys_of (map-append shows ys (x ∷ [])) ∙ map-append (λ (e : ℕ × Mark). e.0) (map shows ys) (shows x ∷ []))
    ∙ sym (append_assoc start (keys_of (map shows ys)) ((shows x).0 ∷ []))

all_from : (P : ℕ → Type 0) (xs : List ℕ) → ((x : ℕ) → Contains xs x → P x) → AllByRecursion P xs
all_from P [] h = tt
all_from P (x ∷ xs) h = (h x (Contains-here x xs), all_from P xs (λ y c. h y (Contains-there x y xs c)))

all_at : (P : ℕ → Type 0) (xs : List ℕ) → AllByRecursion P xs → (x : ℕ) → Contains xs x → P x
all_at P [] h x c = absurd (Contains-none x c)
all_at P (y ∷ ys) h x c = elim (Contains-cases y x ys c) [ inl e ↦ subst P e h.0 | inr d ↦ all_at P ys h.1 x d ]

differ : (x y : ℕ) → (x ≡ y → ⊥) → nat_eq x y ≡ false
differ x y ne = grind (arith, ne)

-- lists that share no id
pub distinct_both : (xs ys : List ℕ) → IsDistinct nat_eq xs → IsDistinct nat_eq ys → ((x : ℕ) → Contains xs x → Contains ys x → ⊥) → IsDistinct nat_eq (xs ++ ys)
distinct_both [] ys dx dy none = dy
distinct_both (x ∷ xs) ys dx dy none =
    IsDistinct-cons nat_eq x (xs ++ ys) (all_from (λ y. nat_eq x y ≡ false) (xs ++ ys) (λ y c. elim (Contains-append_cases xs ys y c) [
      | inl d ↦ all_at (λ y. nat_eq x y ≡ false) xs (IsDistinct-head nat_eq x xs dx) y d
      | inr d ↦ differ x y (λ e. none x (Contains-here x xs) (subst (Contains ys) (sym e) d))
    ])) (distinct_both xs ys (IsDistinct-tail nat_eq x xs dx) dy (λ y c d. none y (Contains-there x y xs c) d))

pub keys_marked : (others : List (ℕ × Mark)) (id : ℕ) → IsSome (mark_at others id) → Contains (keys_of others) id
keys_marked others id there = Contains-keys_from_lookup same_number id others there

-- ---- the ids that pass a test

pub among : (p : ℕ → Bool) (xs : List ℕ) (x : ℕ) → Contains (filter p xs) x → Contains xs x
among p [] x c = c
among p (y ∷ ys) x c = by_test (p y) c (among p ys x)
  where
    by_test : (b : Bool) → Contains (cond b (y ∷ filter p ys) (filter p ys)) x → (Contains (filter p ys) x → Contains ys x) → Contains (y ∷ ys) x
    by_test true c deeper = elim (Contains-cases y x (filter p ys) c) [ inl e ↦ subst (Contains (y ∷ ys)) e (Contains-here y ys) | inr d ↦ Contains-there y x ys (deeper d) ]
    by_test false c deeper = Contains-there y x ys (deeper c)

pub filter_distinct : (p : ℕ → Bool) (xs : List ℕ) → IsDistinct nat_eq xs → IsDistinct nat_eq (filter p xs)
filter_distinct p [] d = d
filter_distinct p (x ∷ xs) d = by_test (p x) (filter_distinct p xs (IsDistinct-tail nat_eq x xs d))
  where
    by_test : (b : Bool) → IsDistinct nat_eq (filter p xs) → IsDistinct nat_eq (cond b (x ∷ filter p xs) (filter p xs))
    by_test true rest = IsDistinct-cons nat_eq x (filter p xs) (all_from (λ y. nat_eq x y ≡ false) (filter p xs) (λ y c. all_at (λ y. nat_eq x y ≡ false) xs (IsDistinct-head nat_eq x xs d) y (among p xs y c))) rest
    by_test false rest = rest

pub passes : (p : ℕ → Bool) (xs : List ℕ) (x : ℕ) → Contains (filter p xs) x → p x ≡ true
passes p [] x c = absurd (Contains-none x c)
passes p (y ∷ ys) x c = by_test (p y) refl c (passes p ys x)
  where
    by_test : (b : Bool) → p y ≡ b → Contains (cond b (y ∷ filter p ys) (filter p ys)) x → (Contains (filter p ys) x → p x ≡ true) → p x ≡ true
    by_test true t c deeper = elim (Contains-cases y x (filter p ys) c) [ inl e ↦ subst (λ z. p z ≡ true) e t | inr d ↦ deeper d ]
    by_test false t c deeper = deeper c

pub keeps : (p : ℕ → Bool) (xs : List ℕ) (x : ℕ) → Contains xs x → p x ≡ true → Contains (filter p xs) x
keeps p [] x c t = absurd (Contains-none x c)
keeps p (y ∷ ys) x c t = elim (Contains-cases y x ys c) [
  | inl e ↦ here (p y) (subst (λ z. p z ≡ true) (sym e) t) e
  | inr d ↦ there (p y) (keeps p ys x d t)
]
  where
    here : (b : Bool) → b ≡ true → y ≡ x → Contains (cond b (y ∷ filter p ys) (filter p ys)) x
    here true s e = subst (Contains (y ∷ filter p ys)) e (Contains-here y (filter p ys))
    here false s e = cc

    there : (b : Bool) → Contains (filter p ys) x → Contains (cond b (y ∷ filter p ys) (filter p ys)) x
    there true d = Contains-there y x (filter p ys) d
    there false d = d

-- one more id, which passes or does not
pub passing_more : (p : ℕ → Bool) (xs before after : List ℕ) (i : ℕ) → i < length xs → before ≡ filter p (take i xs) → p (get_or xs i 0) ≡ true → after ≡ before ++ get_or xs i 0 ∷ [] → after ≡ filter p (take (i + 1) xs)
passing_more p xs before after i lt so_far t pushed = pushed ∙ (ap (λ ys. ys ++ get_or xs i 0 ∷ []) so_far ∙ (ap (λ b. filter p (take i xs) ++ cond b (get_or xs i 0 ∷ []) []) (sym t) ∙ sym (filter_more p xs i 0 lt)))

pub failing_more : (p : ℕ → Bool) (xs before : List ℕ) (i : ℕ) → i < length xs → before ≡ filter p (take i xs) → p (get_or xs i 0) ≡ false → before ≡ filter p (take (i + 1) xs)
failing_more p xs before i lt so_far t = so_far ∙ (sym (append-nil (filter p (take i xs))) ∙ (ap (λ b. filter p (take i xs) ++ cond b (get_or xs i 0 ∷ []) []) (sym t) ∙ sym (filter_more p xs i 0 lt)))

-- a near id has a mark
pub near_some : (most : ℕ) (o : Option Mark) → is_within most (option_map (λ (l : Label). l.length) (option_map (λ (m : Mark). m.label) o)) ≡ true → is_some o ≡ true
near_some most None h = h
near_some most (Some m) h = refl

-- ids that do not pass
pub skipped : (p : ℕ → Bool) (xs : List ℕ) (i n : ℕ) → ((k : ℕ) → i ≤ k → k < i + n → k < length xs → p (get_or xs k 0) ≡ false) → filter p (take i xs) ≡ filter p (take (i + n) xs)
skipped p xs i zero none = ap (λ k. filter p (take k xs)) (omega arith)
skipped p xs i (suc n) none =
    let so_far : filter p (take i xs) ≡ filter p (take (i + n) xs) = skipped p xs i n (λ k le lt within. none k le (omega (arith, lt)) within) in
    elim (cases_lt (i + n) (length xs)) [
      | inl lt ↦ ap (λ k. filter p (take k xs)) (omega arith) ∙ failing_more p xs (filter p (take i xs)) (i + n) lt so_far (none (i + n) (omega arith) (omega arith) lt) ∙ ap (λ k. filter p (take k xs)) (omega arith)
      | inr ge ↦ so_far ∙ (ap (filter p) (take_all (i + n) xs (omega (arith, ge)) ∙ sym (take_all (i + suc n) xs (omega (arith, ge)))))
    ]
