-- Lists of marks by ascending id are equal if they have the same marks.
use Rattle.std.proofs.Common.{◌≡◌, ℕ, ◌<◌, List, [], ◌∷◌, ◌⊎◌, inl, inr, map, refl, arith, ap, sym, ◌∙◌, subst}
use Rattle.std.specs.List.{Contains, AllByRecursion}
use Rattle.std.specs.List.Sorted.{IsStrictlySortedBy}
use Rattle.std.specs.Ordering.{nat_cmp}
use Rattle.std.specs.declared.cmp.Ordering.TheVariants.{Less}
use Rattle.std.proofs.lemmas.Map.Keys.{sorted_head, sorted_tail}
use Rattle.road_map.proofs.Among.{Contains-none, Contains-here, Contains-there, Contains-cases, Contains-map}
use Rattle.book_model.proofs.ById.{all_contain}
use Rattle.proof_octets.specs.declared.marks.Mark.{Mark}
use Rattle.proof_octets.specs.Radius.{marked_ids, ListsMarks}

less : (x y : ℕ) → nat_cmp x y ≡ Less → x < y
less x y h = grind (arith, h)

-- the marks after the first have greater ids
behind : (x m : Mark) (xs : List Mark) → IsStrictlySortedBy nat_cmp (marked_ids (x ∷ xs)) → Contains xs m → x.id < m.id
behind x m xs sorted c =
    less x.id m.id (all_contain (λ (y : ℕ). nat_cmp x.id y ≡ Less) (marked_ids xs) m.id (sorted_head nat_cmp x.id (marked_ids xs) sorted) (Contains-map (λ (k : Mark). k.id) xs m c))

one_head : (x y : Mark) (xs ys : List Mark) → IsStrictlySortedBy nat_cmp (marked_ids (x ∷ xs)) → IsStrictlySortedBy nat_cmp (marked_ids (y ∷ ys)) → (y ≡ x) ⊎ Contains ys x → (x ≡ y) ⊎ Contains xs y → x ≡ y
one_head x y xs ys up down (inl e) there = sym e
one_head x y xs ys up down (inr c) (inl e) = e
one_head x y xs ys up down (inr c) (inr d) = absurd (omega (arith, behind y x ys down c, behind x y xs up d))

-- a mark after the first one in one list is also after it in another list that begins with the same mark
in_rest : (x y m : Mark) (xs ys : List Mark) → IsStrictlySortedBy nat_cmp (marked_ids (x ∷ xs)) → x ≡ y → Contains xs m → Contains (y ∷ ys) m → Contains ys m
in_rest x y m xs ys up same c d = elim (Contains-cases y m ys d) [
  | inr there ↦ there
  | inl e ↦ absurd (let id : x.id ≡ m.id = ap (λ (k : Mark). k.id) (same ∙ e) in omega (arith, behind x m xs up c, id))
]

pub marks_same : (xs ys : List Mark) → IsStrictlySortedBy nat_cmp (marked_ids xs) → IsStrictlySortedBy nat_cmp (marked_ids ys) → ((m : Mark) → Contains xs m → Contains ys m) → ((m : Mark) → Contains ys m → Contains xs m) → xs ≡ ys
marks_same [] [] up down to back = refl
marks_same [] (y ∷ ys) up down to back = absurd (Contains-none y (back y (Contains-here y ys)))
marks_same (x ∷ xs) [] up down to back = absurd (Contains-none x (to x (Contains-here x xs)))
marks_same (x ∷ xs) (y ∷ ys) up down to back =
    let first : x ≡ y = one_head x y xs ys up down (Contains-cases y x ys (to x (Contains-here x xs))) (Contains-cases x y xs (back y (Contains-here y ys))) in
    let rest : xs ≡ ys =
    marks_same xs ys (sorted_tail nat_cmp x.id (marked_ids xs) up) (sorted_tail nat_cmp y.id (marked_ids ys) down)
    (λ m c. in_rest x y m xs ys up first c (to m (Contains-there x m xs c)))
    (λ m c. in_rest y x m ys xs down (sym first) c (back m (Contains-there y m ys c))) in
    ap (λ (z : Mark). z ∷ xs) first ∙ ap (λ (zs : List Mark). y ∷ zs) rest

-- there is at most one list of the marks that satisfy a fact
pub listed_once : (P : Mark → Type 0) (xs ys : List Mark) → ListsMarks P xs → ListsMarks P ys → xs ≡ ys
listed_once P xs ys one other =
    marks_same xs ys one.rising other.rising (λ m c. (other.same m).1 ((one.same m).0 c)) (λ m c. (one.same m).1 ((other.same m).0 c))

-- the list for a fact is also the list for an equivalent fact
pub listed_same : {P Q : Mark → Type 0} (xs : List Mark) → ((m : Mark) → (P m → Q m) × (Q m → P m)) → ListsMarks P xs → ListsMarks Q xs
listed_same xs same one = record { rising = one.rising; same = λ m. (λ c. (same m).0 ((one.same m).0 c), λ q. (one.same m).1 ((same m).1 q)) }
