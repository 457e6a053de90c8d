-- If arcs are paired, at most half of them lead to a greater id.
use Rattle.std.proofs.Common.{◌≡◌, ◌≢◌, ℕ, zero, suc, ◌+◌, ◌<◌, ◌≤◌, ◌==◌, ◌&&◌, nat_lt, Bool, true, false, not, cond, None, List, [], ◌∷◌, length, map, take, get_or, count_by, refl, sym, ◌∙◌, ap, subst, arith}
use Rattle.std.specs.List.{Contains, filter, remove}
use Rattle.std.specs.List.Sorted.{IsPermutation}
use Rattle.std.proofs.lemmas.List.{length-map, take_all}
use Rattle.std.proofs.lemmas.List.Sums.{sum_by-cons, sum_by_more}
use Rattle.std.proofs.lemmas.List.Filters.{length-filter_both}
use Rattle.std.proofs.lemmas.List.Sorted.{IsPermutation-remove, length_permutation, sum_by-IsPermutation}
use Rattle.dimacs_reader.specs.declared.arc.Arc.{Arc}
use Rattle.dimacs_reader.specs.Dimacs.{is_arc, turned, first_unpaired, road_of, roads_of}
use Rattle.dimacs_reader.proofs.ArcLaws.{counted, paired_at, same_arc}

-- ---- counting in a list

count-cons : (arc x : Arc) (xs : List Arc) → count_by (is_arc arc) (x ∷ xs) ≡ cond (is_arc arc x) 1 0 + count_by (is_arc arc) xs
count-cons arc x xs = sum_by-cons (λ y. cond (is_arc arc y) 1 0) x xs

-- a list that has each item at least as often as another list is at least as long
dominated : (xs ys : List Arc) → ((arc : Arc) → count_by (is_arc arc) xs ≤ count_by (is_arc arc) ys) → length xs ≤ length ys
dominated [] ys h = omega arith
dominated (x ∷ xs) ys h =
    let one : count_by (is_arc x) (x ∷ xs) ≡ 1 + count_by (is_arc x) xs = count-cons x x xs ∙ ap (λ b. cond b 1 0 + count_by (is_arc x) xs) (same x) in
    let some : 1 ≤ count_by (is_arc x) ys = omega (arith, h x, one) in
    let at : Contains ys x = counted x ys some in
    let moved : IsPermutation ys (x ∷ remove ys at.0) = IsPermutation-remove ys at.0 x at.1 (sym at.2) in
    let rest : length xs ≤ length (remove ys at.0) = dominated xs (remove ys at.0) (λ arc. omega (arith, h arc, count-cons arc x xs, count-cons arc x (remove ys at.0), sum_by-IsPermutation (λ y. cond (is_arc arc y) 1 0) ys (x ∷ remove ys at.0) moved)) in
    omega (arith, rest, length_permutation ys (x ∷ remove ys at.0) moved)
  where
    same : (arc : Arc) → is_arc arc arc ≡ true
    same arc = grind arith

-- equal arcs pass the same tests
count_kept : (p : Arc → Bool) (arc : Arc) (xs : List Arc) → count_by (is_arc arc) (filter p xs) ≡ cond (p arc) (count_by (is_arc arc) xs) 0
count_kept p arc [] = by_test (p arc)
  where
    by_test : (b : Bool) → (let none : ℕ = 0 in none) ≡ cond b 0 0
    by_test true = refl
    by_test false = refl
count_kept p arc (x ∷ xs) = by_head (p x) refl (is_arc arc x) refl (count_kept p arc xs)
  where
    by_head : (b : Bool) → p x ≡ b → (s : Bool) → is_arc arc x ≡ s → count_by (is_arc arc) (filter p xs) ≡ cond (p arc) (count_by (is_arc arc) xs) 0 → count_by (is_arc arc) (cond b (x ∷ filter p xs) (filter p xs)) ≡ cond (p arc) (count_by (is_arc arc) (x ∷ xs)) 0
    by_head b e true s rest =
        let here : p arc ≡ b = ap p (same_arc arc x s) ∙ e in
        both b here rest
      where
        both : (b : Bool) → p arc ≡ b → count_by (is_arc arc) (filter p xs) ≡ cond (p arc) (count_by (is_arc arc) xs) 0 → count_by (is_arc arc) (cond b (x ∷ filter p xs) (filter p xs)) ≡ cond (p arc) (count_by (is_arc arc) (x ∷ xs)) 0
        both true e h = rw e (count-cons arc x (filter p xs) ∙ (ap (λ n. cond (is_arc arc x) 1 0 + n) (h ∙ ap (λ b. cond b (count_by (is_arc arc) xs) 0) e) ∙ sym (count-cons arc x xs)))
        both false e h = rw e (h ∙ ap (λ b. cond b (count_by (is_arc arc) xs) 0) e)
    by_head b e false s rest = other b
      where
        more : (ys : List Arc) → count_by (is_arc arc) (x ∷ ys) ≡ count_by (is_arc arc) ys
        more ys = count-cons arc x ys ∙ ap (λ b. cond b 1 0 + count_by (is_arc arc) ys) s ∙ omega arith

        other : (b : Bool) → count_by (is_arc arc) (cond b (x ∷ filter p xs) (filter p xs)) ≡ cond (p arc) (count_by (is_arc arc) (x ∷ xs)) 0
        other true = more (filter p xs) ∙ (rest ∙ sym (ap (λ n. cond (p arc) n 0) (more xs)))
        other false = rest ∙ sym (ap (λ n. cond (p arc) n 0) (more xs))

count_turned : (arc : Arc) (xs : List Arc) → count_by (is_arc arc) (map turned xs) ≡ count_by (is_arc (turned arc)) xs
count_turned arc [] = refl
count_turned arc (x ∷ xs) =
    count-cons arc (turned x) (map turned xs)
    ∙ (ap (λ n. cond (is_arc arc (turned x)) 1 0 + n) (count_turned arc xs)
    ∙ (ap (λ b. cond b 1 0 + count_by (is_arc (turned arc)) xs) (swapped (arc.from == x.to) (arc.to == x.from) (arc.length == x.length))
    ∙ sym (count-cons (turned arc) x xs)))
  where
    swapped : (a b c : Bool) → (a && b && c) ≡ (b && a && c)
    swapped true true c = refl
    swapped true false c = refl
    swapped false true c = refl
    swapped false false c = refl

-- ---- paired arcs

-- there are as many reverse arcs as arcs of this kind
pub all_paired : (arcs : List Arc) → first_unpaired arcs ≡ None → (arc : Arc) → arc.from ≢ arc.to → count_by (is_arc arc) arcs ≤ count_by (is_arc (turned arc)) arcs
all_paired arcs none arc apart = subst (λ xs. count_by (is_arc arc) xs ≤ count_by (is_arc (turned arc)) arcs) (take_all (length arcs) arcs (omega arith)) (up_to (length arcs) (omega arith))
  where
    up_to : (n : ℕ) → n ≤ length arcs → count_by (is_arc arc) (take n arcs) ≤ count_by (is_arc (turned arc)) arcs
    up_to zero le = omega arith
    up_to (suc n) le = by_next (is_arc arc (get_or arcs n arc)) refl (up_to n (omega arith))
      where
        same : n + 1 ≡ suc n
        same = omega arith

        by_next : (b : Bool) → is_arc arc (get_or arcs n arc) ≡ b → count_by (is_arc arc) (take n arcs) ≤ count_by (is_arc (turned arc)) arcs → count_by (is_arc arc) (take (suc n) arcs) ≤ count_by (is_arc (turned arc)) arcs
        by_next true e before = subst (λ m. count_by (is_arc arc) (take m arcs) ≤ count_by (is_arc (turned arc)) arcs) same (paired_at arcs none arc apart n (omega arith) (sym (same_arc arc (get_or arcs n arc) e)))
        by_next false e before =
            let next : count_by (is_arc arc) (take (n + 1) arcs) ≡ count_by (is_arc arc) (take n arcs) + 0 = sum_by_more (λ x. cond (is_arc arc x) 1 0) arcs n arc (omega arith) ∙ ap (λ b. count_by (is_arc arc) (take n arcs) + cond b 1 0) e in
            subst (λ m. count_by (is_arc arc) (take m arcs) ≤ count_by (is_arc (turned arc)) arcs) same (omega arith)

abbrev up : Arc → Bool
up a = nat_lt a.from a.to

abbrev down : Arc → Bool
down a = not (nat_lt a.from a.to)

up_fewer : (arcs : List Arc) → first_unpaired arcs ≡ None → length (filter up arcs) ≤ length (map turned (filter down arcs))
up_fewer arcs none = dominated (filter up arcs) (map turned (filter down arcs)) (λ arc. by_test arc (up arc) refl)
  where
    less : (a b : ℕ) → nat_lt a b ≡ true → a < b
    less a b e = grind (arith, e)

    past : (a b : ℕ) → a < b → nat_lt b a ≡ false
    past a b e = grind (arith, e)

    kept_up : (arc : Arc) → count_by (is_arc arc) (filter up arcs) ≡ cond (up arc) (count_by (is_arc arc) arcs) 0
    kept_up arc = count_kept up arc arcs

    kept_down : (arc : Arc) → count_by (is_arc arc) (map turned (filter down arcs)) ≡ cond (down (turned arc)) (count_by (is_arc (turned arc)) arcs) 0
    kept_down arc = count_turned arc (filter down arcs) ∙ count_kept down (turned arc) arcs

    by_test : (arc : Arc) (b : Bool) → up arc ≡ b → count_by (is_arc arc) (filter up arcs) ≤ count_by (is_arc arc) (map turned (filter down arcs))
    by_test arc true e =
        let lt : arc.from < arc.to = less arc.from arc.to e in
        let apart : arc.from ≢ arc.to = λ same. absurd (omega (arith, same)) in
        let left : count_by (is_arc arc) (filter up arcs) ≡ count_by (is_arc arc) arcs = kept_up arc ∙ ap (λ b. cond b (count_by (is_arc arc) arcs) 0) e in
        let right : count_by (is_arc arc) (map turned (filter down arcs)) ≡ count_by (is_arc (turned arc)) arcs = kept_down arc ∙ ap (λ b. cond (not b) (count_by (is_arc (turned arc)) arcs) 0) (past arc.from arc.to lt) in
        omega (arith, left, right, all_paired arcs none arc apart)
    by_test arc false e =
        let left : count_by (is_arc arc) (filter up arcs) ≡ 0 = kept_up arc ∙ ap (λ b. cond b (count_by (is_arc arc) arcs) 0) e in
        omega (arith, left)

pub few_roads : (arcs : List Arc) → first_unpaired arcs ≡ None → length (roads_of arcs) + length (roads_of arcs) ≤ length arcs
unfolding roads_of
few_roads arcs none =
    omega (arith, length-map (filter up arcs) road_of, length-map (filter down arcs) turned, length-filter_both up down (λ x. refl) arcs, up_fewer arcs none)
