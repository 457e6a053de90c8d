-- Numbers in words are numbers in their ranges.
use Rattle.std.proofs.Common.{◌≡◌, ℕ, zero, suc, ◌+◌, ◌<◌, ◌^◌, ◌&&◌, nat_lt, Bool, true, false, cond, Option, None, Some, List, length, drop, refl, subst, arith}
use Rattle.std.specs.Prelude.{ℤ, pos, neg_ℤ, FitsSigned}
use Rattle.std.specs.Int.{w32}
use Rattle.std.specs.Option.{option_map}
use Rattle.std.specs.Str.{all_ascii_digits}
use Rattle.std.specs.Str.Parse.{digits_value, starts_with_minus}
use Rattle.road_map.specs.declared.parts.Node.{Node}
use Rattle.road_map.proofs.Among.{some_parts}
use Rattle.road_reader.specs.Fields.{◌>>=◌, number_below, natural_of, coordinate_of}
use Rattle.dimacs_reader.specs.declared.arc.Arc.{Arc}
use Rattle.dimacs_reader.specs.Fields.{arc_in, place_in}

bind_some : {A B : Type 0} (o : Option A) (next : A → Option B) (y : B) → (o >>= next) ≡ Some y → (x : A) × (o ≡ Some x) × (next x ≡ Some y)
bind_some None next y h = cc
bind_some (Some x) next y h = (x, refl, h)

and_last : (a b : Bool) → (a && b) ≡ true → b ≡ true
and_last true b h = h
and_last false b h = cc

number_fits : (limit : ℕ) (word : List ℕ) (n : ℕ) → number_below limit word ≡ Some n → n < limit
number_fits limit word n h = by_test (nat_lt 0 (length word) && all_ascii_digits word && nat_lt (digits_value 10 word) limit) refl h
  where
    below : (a b : ℕ) → nat_lt a b ≡ true → a < b
    below a b e = grind (arith, e)

    by_test : (b : Bool) → (nat_lt 0 (length word) && all_ascii_digits word && nat_lt (digits_value 10 word) limit) ≡ b → cond b (Some (digits_value 10 word)) None ≡ Some n → n < limit
    by_test true e is =
        let same : digits_value 10 word ≡ n = cc in
        subst (λ k. k < limit) same (below (digits_value 10 word) limit (and_last (nat_lt 0 (length word) && all_ascii_digits word) _ e))
    by_test false e is = cc

positive_fits : (n : ℕ) → n < 2 ^ 31 → FitsSigned w32 (pos n)
positive_fits n h = record { sfits = omega (arith, h) }

negative_fits : (n : ℕ) → n < 2 ^ 31 + 1 → FitsSigned w32 (neg_ℤ (pos n))
negative_fits zero h = record { sfits = omega arith }
negative_fits (suc n) h = record { sfits = omega (arith, h) }

coordinate_fits : (word : List ℕ) (z : ℤ) → coordinate_of word ≡ Some z → FitsSigned w32 z
coordinate_fits word z h = by_sign (starts_with_minus word) h
  where
    by_sign : (b : Bool) → cond b (option_map (λ n. neg_ℤ (pos n)) (number_below (2 ^ 31 + 1) (drop 1 word))) (option_map pos (number_below (2 ^ 31) word)) ≡ Some z → FitsSigned w32 z
    by_sign true is =
        let n : (n : ℕ) × (number_below (2 ^ 31 + 1) (drop 1 word) ≡ Some n) × (neg_ℤ (pos n) ≡ z) = some_parts (λ n. neg_ℤ (pos n)) (number_below (2 ^ 31 + 1) (drop 1 word)) z is in
        subst (λ z. FitsSigned w32 z) n.2 (negative_fits n.0 (number_fits (2 ^ 31 + 1) (drop 1 word) n.0 n.1))
    by_sign false is =
        let n : (n : ℕ) × (number_below (2 ^ 31) word ≡ Some n) × (pos n ≡ z) = some_parts pos (number_below (2 ^ 31) word) z is in
        subst (λ z. FitsSigned w32 z) n.2 (positive_fits n.0 (number_fits (2 ^ 31) word n.0 n.1))

pub place_fits : (id x y : List ℕ) (node : Node) → place_in id x y ≡ Some node → FitsSigned w32 node.x × FitsSigned w32 node.y
place_fits id x y node h =
    let i = bind_some (natural_of id) (λ id. coordinate_of x >>= (λ x. coordinate_of y >>= (λ y. Some (made id x y)))) node h in
    let a = bind_some (coordinate_of x) (λ x. coordinate_of y >>= (λ y. Some (made i.0 x y))) node i.2 in
    let b = bind_some (coordinate_of y) (λ y. Some (made i.0 a.0 y)) node a.2 in
    subst (λ (n : Node). FitsSigned w32 n.x × FitsSigned w32 n.y) (same (made i.0 a.0 b.0) node b.2) (coordinate_fits x a.0 a.1, coordinate_fits y b.0 b.1)
  where
    same : (m n : Node) → Some m ≡ Some n → m ≡ n
    same m n e = cc

    made : ℕ → ℤ → ℤ → Node
    made id x y = record { id = id; x = x; y = y }

pub arc_fits : (from to length : List ℕ) (arc : Arc) → arc_in from to length ≡ Some arc → arc.length < 2 ^ 32
arc_fits from to length arc h =
    let f = bind_some (natural_of from) (λ from. natural_of to >>= (λ to. natural_of length >>= (λ length. Some (made from to length)))) arc h in
    let t = bind_some (natural_of to) (λ to. natural_of length >>= (λ length. Some (made f.0 to length))) arc f.2 in
    let l = bind_some (natural_of length) (λ length. Some (made f.0 t.0 length)) arc t.2 in
    subst (λ (a : Arc). a.length < 2 ^ 32) (same (made f.0 t.0 l.0) arc l.2) (number_fits (2 ^ 32) length l.0 l.1)
  where
    same : (m n : Arc) → Some m ≡ Some n → m ≡ n
    same m n e = cc

    made : ℕ → ℕ → ℕ → Arc
    made from to length = record { from = from; to = to; length = length }
