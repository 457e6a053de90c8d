-- A grid is a map, and a walk joins any two of its nodes.
use Rattle.std.proofs.Common.{◌≡◌, ℕ, zero, suc, ◌+◌, ◌-◌, ◌*◌, ◌/◌, ◌%◌, ◌^◌, ◌<◌, ◌≤◌, ◌==◌, ◌≢◌, Bool, true, false, cond, List, [], ◌∷◌, ◌++◌, ◌⊎◌, inl, inr, refl, arith, ap, sym, ◌∙◌, subst, map, length, count_by, length-append, nat_eq, nat_lt}
use Rattle.std.specs.List.{Contains, IsDistinct, AllByRecursion, flat_map, range_with_len}
use Rattle.std.specs.Cmp.{nat_eq_equiv}
use Rattle.std.proofs.Math.Nat.{mul-le-mul_left}
use Rattle.std.proofs.lemmas.Nat.{div-mul-add, mod-mul-add}
use Rattle.std.proofs.lemmas.List.{length-map}
use Rattle.std.proofs.lemmas.List.Elements.{Contains-append_left, Contains-append_right, Contains-append_cases}
use Rattle.std.proofs.lemmas.List.FromFn.{length-range_with_len, length-map-range_with_len, get_or-range_with_len}
use Rattle.std.proofs.lemmas.Map.Keys.{IsDistinct-cons}
use Rattle.std.proofs.lemmas.Map.Made.{length-le_from_is_member}
use Rattle.std.proofs.lemmas.Map.Views.{list_any-from_Contains, Contains-from_any}
use Rattle.road_map.specs.declared.parts.Node.{Node}
use Rattle.road_map.specs.declared.parts.Road.{Road}
use Rattle.road_map.specs.declared.arc.Arc.{Arc}
use Rattle.road_map.specs.Walks.{Hop, hop_start, hop_end, Follows, end_from, total, Knows}
use Rattle.road_map.specs.ArcsOut.{arcs_out, RiseAbove, Rise}
use Rattle.road_map.specs.Maps.{StandsTwice, IsSized, JoinsTwo, IsCrowded, IsMap}
use Rattle.road_map.proofs.Among.{Contains-none, Contains-here, Contains-there, Contains-cases, Contains-map, Contains-from_map, contains_at}
use Rattle.road_map.proofs.ArcLaws.{HopOf, arcs_out-sound, arcs_out-rise}
use Rattle.road_map.proofs.PlaceLaws.{order}
use Rattle.road_map.proofs.Twice.{is_at, count-cons}
use Rattle.road_reader.specs.Grid.{first_state, next_state, drawn, grid_node, right_of, below_of, ends_of, with_lengths, grid_of, IsConnected}
use Rattle.road_reader.proofs.GridLaws.{square_small}

-- the numbers of a range
range_of : (n i : ℕ) → Contains (range_with_len 0 n) i → i < n
range_of n i h =
    let within : h.0 < n = omega (arith, h.1, length-range_with_len 0 n) in
    omega (arith, get_or-range_with_len 0 n h.0 i within, h.2)

in_range : (n i : ℕ) → i < n → Contains (range_with_len 0 n) i
in_range n i lt = (i, omega (arith, length-range_with_len 0 n), get_or-range_with_len 0 n i i lt ∙ omega arith)

-- the result of flat_map
flat_of : {X A : Type 0} (f : X → List A) (xs : List X) (y : A) → Contains (flat_map f xs) y → (x : X) × Contains xs x × Contains (f x) y
flat_of f [] y h = absurd (Contains-none y h)
flat_of f (x ∷ xs) y h = elim (Contains-append_cases (f x) (flat_map f xs) y h) [
  | inl c ↦ (x, Contains-here x xs, c)
  | inr c ↦ (let r : (x : _) × Contains xs x × Contains (f x) y = flat_of f xs y c in (r.0, Contains-there x r.0 xs r.1, r.2))
]

in_flat : {X A : Type 0} (f : X → List A) (xs : List X) (x : X) (y : A) → Contains xs x → Contains (f x) y → Contains (flat_map f xs) y
in_flat f [] x y h c = absurd (Contains-none x h)
in_flat f (z ∷ xs) x y h c = elim (Contains-cases z x xs h) [
  | inl e ↦ Contains-append_left (f z) (flat_map f xs) y (subst (λ t. Contains (f t) y) (sym e) c)
  | inr d ↦ Contains-append_right (f z) (flat_map f xs) y (in_flat f xs x y d c)
]

-- the roads between these ends
pub record RoadBetween (ends : List (ℕ × ℕ)) (r : Road) : Type 0 where
  pub pair : ℕ × ℕ
  pub among : Contains ends pair
  pub from : r.a ≡ pair.0
  pub to : r.b ≡ pair.1
  pub short : r.length < 2 ^ 32

road_of : (s : ℕ) (ends : List (ℕ × ℕ)) (r : Road) → Contains (with_lengths s ends) r → RoadBetween ends r
road_of s [] r h = absurd (Contains-none r h)
road_of s (p ∷ ends) r h = elim (Contains-cases (record { a = p.0; b = p.1; length = 1 + drawn (next_state s) % 1000 }) r (with_lengths (next_state s) ends) h) [
  | inl e ↦ (let long : 1 + drawn (next_state s) % 1000 ≡ r.length = ap (λ (q : Road). q.length) e in record { pair = p; among = Contains-here p ends; from = ap (λ (q : Road). q.a) (sym e); to = ap (λ (q : Road). q.b) (sym e); short = omega arith })
  | inr c ↦ (let rest : RoadBetween ends r = road_of (next_state s) ends r c in record { pair = rest.pair; among = Contains-there p rest.pair ends rest.among; from = rest.from; to = rest.to; short = rest.short })
]

-- a road between two ids
pub record HasRoadBetween (roads : List Road) (a b : ℕ) : Type 0 where
  pub road : Road
  pub among : Contains roads road
  pub from : road.a ≡ a
  pub to : road.b ≡ b

road_at : (s : ℕ) (ends : List (ℕ × ℕ)) (p : ℕ × ℕ) → Contains ends p → HasRoadBetween (with_lengths s ends) p.0 p.1
road_at s [] p h = absurd (Contains-none p h)
road_at s (q ∷ ends) p h = elim (Contains-cases q p ends h) [
  | inl e ↦ record { road = record { a = q.0; b = q.1; length = 1 + drawn (next_state s) % 1000 }; among = Contains-here _ (with_lengths (next_state s) ends); from = ap (λ (t : ℕ × ℕ). t.0) e; to = ap (λ (t : ℕ × ℕ). t.1) e }
  | inr c ↦ (let rest : HasRoadBetween (with_lengths (next_state s) ends) p.0 p.1 = road_at (next_state s) ends p c in record { road = rest.road; among = Contains-there _ rest.road (with_lengths (next_state s) ends) rest.among; from = rest.from; to = rest.to })
]

-- a pair that a test accepts
one_of : (b : Bool) (x y : ℕ × ℕ) → Contains (cond b (x ∷ []) []) y → (b ≡ true) × (x ≡ y)
one_of true x y h = elim (Contains-cases x y [] h) [ inl e ↦ (refl, e) | inr c ↦ absurd (Contains-none y c) ]
one_of false x y h = absurd (Contains-none y h)

here_if : (b : Bool) (x : ℕ × ℕ) → b ≡ true → Contains (cond b (x ∷ []) []) x
here_if true x e = Contains-here x []
here_if false x e = cc

below_test : (m n : ℕ) → nat_lt m n ≡ true → m < n
below_test m n e = grind (arith, e)

test_below : (m n : ℕ) → m < n → nat_lt m n ≡ true
test_below m n lt = grind (arith, lt)

-- the two ways in which a pair of ends belongs to a grid
abbrev IsRight : ℕ → ℕ → ℕ × ℕ → Type 0
IsRight width i p = (p.0 ≡ i + 1) × (p.1 ≡ i + 2) × (i % width + 1 < width)

abbrev IsBelow : ℕ → ℕ → ℕ × ℕ → Type 0
IsBelow width i p = (p.0 ≡ i + 1) × (p.1 ≡ i + 1 + width) × (i / width + 1 < width)

ends_cases : (width i : ℕ) (p : ℕ × ℕ) → Contains (ends_of width i) p → IsRight width i p ⊎ IsBelow width i p
ends_cases width i p h = elim (Contains-append_cases (right_of width i) (below_of width i) p h) [
  | inl c ↦ (let o : (nat_lt (i % width + 1) width ≡ true) × ((i + 1, i + 2) ≡ p) = one_of (nat_lt (i % width + 1) width) (i + 1, i + 2) p c in inl (ap (λ (t : ℕ × ℕ). t.0) (sym o.1), ap (λ (t : ℕ × ℕ). t.1) (sym o.1), below_test _ _ o.0))
  | inr c ↦ (let o : (nat_lt (i / width + 1) width ≡ true) × ((i + 1, i + 1 + width) ≡ p) = one_of (nat_lt (i / width + 1) width) (i + 1, i + 1 + width) p c in inr (ap (λ (t : ℕ × ℕ). t.0) (sym o.1), ap (λ (t : ℕ × ℕ). t.1) (sym o.1), below_test _ _ o.0))
]

-- one more row
row_more : (width row : ℕ) → width * (row + 1) ≡ width * row + width
row_more width row = grind arith

rows_fit : (width row : ℕ) → row < width → width * row + width ≤ width * width
rows_fit width row lt = omega (arith, row_more width row, mul-le-mul_left {m = row + 1} {n = width} width (omega arith))

two_rows_fit : (width row : ℕ) → row + 1 < width → width * row + width + width ≤ width * width
two_rows_fit width row lt = omega (arith, row_more width row, rows_fit width (row + 1) lt)

row_of_place : (width i : ℕ) → 0 < width → i < width * width → i / width < width
row_of_place width i some lt = elim (order (i / width) width) [
  | inl l ↦ l
  | inr (inl e) ↦ absurd (omega (arith, mul-le-mul_left {m = width} {n = i / width} width (omega arith)))
  | inr (inr more) ↦ absurd (omega (arith, mul-le-mul_left {m = width} {n = i / width} width (omega arith)))
]

right_fits : (width i : ℕ) → 0 < width → i < width * width → i % width + 1 < width → i + 2 ≤ width * width
right_fits width i some lt more = omega (arith, rows_fit width (i / width) (row_of_place width i some lt))

below_fits : (width i : ℕ) → 0 < width → i < width * width → i / width + 1 < width → i + 1 + width ≤ width * width
below_fits width i some lt more = omega (arith, two_rows_fit width (i / width) more)

-- there are as many roads as pairs of ends, and at most two for each node
length-lengths : (s : ℕ) (ends : List (ℕ × ℕ)) → length (with_lengths s ends) ≡ length ends
length-lengths s [] = refl
length-lengths s (p ∷ ends) = ap suc (length-lengths (next_state s) ends)

at_most_one : (b : Bool) (x : ℕ × ℕ) → length (cond b (x ∷ []) []) ≤ 1
at_most_one true x = omega arith
at_most_one false x = omega arith

few_ends : (width : ℕ) (xs : List ℕ) → length (flat_map (ends_of width) xs) ≤ 2 * length xs
few_ends width [] = omega arith
few_ends width (i ∷ xs) = omega (arith, length-append (ends_of width i) (flat_map (ends_of width) xs), length-append (right_of width i) (below_of width i), at_most_one (nat_lt (i % width + 1) width) (i + 1, i + 2), at_most_one (nat_lt (i / width + 1) width) (i + 1, i + 1 + width), few_ends width xs)

-- arcs by ascending id lead to distinct ids
same_number : (x y : ℕ) → nat_eq x y ≡ true → x ≡ y
same_number x y h = grind (arith, h)

apart : (x y : ℕ) → x < y → nat_eq x y ≡ false
apart x y lt = grind (arith, lt)

distinct_none : IsDistinct nat_eq []
unfolding IsDistinct
distinct_none = tt

apart_all : (z x : ℕ) (arcs : List Arc) → z ≤ x → RiseAbove x arcs → AllByRecursion (λ y. nat_eq z y ≡ false) (map (λ (a : Arc). a.to) arcs)
apart_all z x [] le h = tt
apart_all z x (a ∷ arcs) le h = (apart z a.to (omega (arith, h.0)), apart_all z a.to arcs (omega (arith, h.0)) h.1)

above_distinct : (x : ℕ) (arcs : List Arc) → RiseAbove x arcs → IsDistinct nat_eq (map (λ (a : Arc). a.to) arcs)
above_distinct x [] h = distinct_none
above_distinct x (a ∷ arcs) h = IsDistinct-cons nat_eq a.to (map (λ (b : Arc). b.to) arcs) (apart_all a.to a.to arcs (omega arith) h.1) (above_distinct a.to arcs h.1)

rises_distinct : (arcs : List Arc) → Rise arcs → IsDistinct nat_eq (map (λ (a : Arc). a.to) arcs)
rises_distinct [] h = distinct_none
rises_distinct (a ∷ arcs) h = IsDistinct-cons nat_eq a.to (map (λ (b : Arc). b.to) arcs) (apart_all a.to a.to arcs (omega arith) h) (above_distinct a.to arcs h)

-- no id occurs twice among nodes at ascending indices
pub record AtMostOnce (width a n id : ℕ) : Type 0 where
  pub most : count_by (is_at id) (map (grid_node width) (range_with_len a n)) ≤ 1
  pub none : id ≤ a → count_by (is_at id) (map (grid_node width) (range_with_len a n)) ≡ 0

abbrev counted : Bool → ℕ
counted b = cond b 1 0

test_is : (a id : ℕ) (b : Bool) → (a == id) ≡ b → cond b (a ≡ id) (a ≢ id)
test_is a id true e = grind (arith, e)
test_is a id false e = grind (arith, e)

at_most_once : (width a n id : ℕ) → AtMostOnce width a n id
at_most_once width a zero id = record { most = omega arith; none = λ _. refl }
at_most_once width a (suc n) id = by_head (grid_node width a).id refl ((grid_node width a).id == id) refl (at_most_once width (a + 1) n id)
  where
    by_head : (k : ℕ) → k ≡ a + 1 → (b : Bool) → ((grid_node width a).id == id) ≡ b → AtMostOnce width (a + 1) n id → AtMostOnce width a (suc n) id
    by_head k is true e rest =
        let same : a + 1 ≡ id = test_is (a + 1) id true e in
        let gone : count_by (is_at id) (map (grid_node width) (range_with_len (a + 1) n)) ≡ 0 = rest.none (omega arith) in
        let sum : count_by (is_at id) (map (grid_node width) (range_with_len a (suc n))) ≡ counted ((grid_node width a).id == id) + count_by (is_at id) (map (grid_node width) (range_with_len (a + 1) n)) = count-cons id (grid_node width a) (map (grid_node width) (range_with_len (a + 1) n)) in
        let one : counted ((grid_node width a).id == id) ≡ 1 = ap counted e in
        record { most = omega arith; none = λ le. absurd (omega (arith, le, same)) }
    by_head k is false e rest =
        let sum : count_by (is_at id) (map (grid_node width) (range_with_len a (suc n))) ≡ counted ((grid_node width a).id == id) + count_by (is_at id) (map (grid_node width) (range_with_len (a + 1) n)) = count-cons id (grid_node width a) (map (grid_node width) (range_with_len (a + 1) n)) in
        let nothing : counted ((grid_node width a).id == id) ≡ 0 = ap counted e in
        let most : count_by (is_at id) (map (grid_node width) (range_with_len (a + 1) n)) ≤ 1 = rest.most in
        record { most = omega arith; none = λ le. (let none : count_by (is_at id) (map (grid_node width) (range_with_len (a + 1) n)) ≡ 0 = rest.none (omega (arith, le)) in omega arith) }

-- the items of a list of four
first_of_four : (a b c d : ℕ) → Contains (a ∷ b ∷ c ∷ d ∷ []) a
first_of_four a b c d = Contains-here a (b ∷ c ∷ d ∷ [])

second_of_four : (a b c d : ℕ) → Contains (a ∷ b ∷ c ∷ d ∷ []) b
second_of_four a b c d = Contains-there a b (b ∷ c ∷ d ∷ []) (Contains-here b (c ∷ d ∷ []))

third_of_four : (a b c d : ℕ) → Contains (a ∷ b ∷ c ∷ d ∷ []) c
third_of_four a b c d = Contains-there a c (b ∷ c ∷ d ∷ []) (Contains-there b c (c ∷ d ∷ []) (Contains-here c (d ∷ [])))

fourth_of_four : (a b c d : ℕ) → Contains (a ∷ b ∷ c ∷ d ∷ []) d
fourth_of_four a b c d = Contains-there a d (b ∷ c ∷ d ∷ []) (Contains-there b d (c ∷ d ∷ []) (Contains-there c d (d ∷ []) (Contains-here d [])))

-- the hops from one id to another
pub record Linked (roads : List Road) (u v : ℕ) : Type 0 where
  pub hops : List Hop
  pub follows : Follows roads u hops
  pub ends : end_from u hops ≡ v

follow_on : (roads : List Road) (u v t : ℕ) (hs ks : List Hop) → Follows roads u hs → end_from u hs ≡ v → Follows roads v ks → end_from v ks ≡ t → Follows roads u (hs ++ ks) × (end_from u (hs ++ ks) ≡ t)
follow_on roads u v t [] ks f e g k = (subst (λ x. Follows roads x ks) (sym e) g, subst (λ x. end_from x ks ≡ t) (sym e) k)
follow_on roads u v t (h ∷ hs) ks f e g k = let r : Follows roads (hop_end h) (hs ++ ks) × (end_from (hop_end h) (hs ++ ks) ≡ t) = follow_on roads (hop_end h) v t hs ks f.2 e g k in ((f.0, f.1, r.0), r.1)

linked_on : (roads : List Road) (u v t : ℕ) → Linked roads u v → Linked roads v t → Linked roads u t
linked_on roads u v t a b =
    let r : Follows roads u (a.hops ++ b.hops) × (end_from u (a.hops ++ b.hops) ≡ t) = follow_on roads u v t a.hops b.hops a.follows a.ends b.follows b.ends in
    record { hops = a.hops ++ b.hops; follows = r.0; ends = r.1 }

-- both ways
abbrev Both : List Road → ℕ → ℕ → Type 0
Both roads u v = Linked roads u v × Linked roads v u

both_here : (roads : List Road) (u : ℕ) → Both roads u u
both_here roads u = (record { hops = []; follows = tt; ends = refl }, record { hops = []; follows = tt; ends = refl })

both_on : (roads : List Road) (u v t : ℕ) → Both roads u v → Both roads v t → Both roads u t
both_on roads u v t a b = (linked_on roads u v t a.0 b.0, linked_on roads t v u b.1 a.1)

both_over : (roads : List Road) (a b : ℕ) → HasRoadBetween roads a b → Both roads a b
both_over roads a b h = (
  record { hops = record { road = h.road; back = false } ∷ []; follows = (h.among, h.from, tt); ends = h.to },
  record { hops = record { road = h.road; back = true } ∷ []; follows = (h.among, h.to, tt); ends = h.from },
)

module _ (width seed : ℕ) (wide : 2 ≤ width) (narrow : width ≤ 256) where
  knows : (i : ℕ) → i < width * width → Knows (grid_of width seed) (i + 1)
  unfolding grid_of
  knows i lt = Contains-map (λ (n : Node). n.id) (map (grid_node width) (range_with_len 0 (width * width))) (grid_node width i) (Contains-map (grid_node width) (range_with_len 0 (width * width)) i (in_range (width * width) i lt))

  pub knows_each : (id : ℕ) → 1 ≤ id → id ≤ width * width → Knows (grid_of width seed) id
  knows_each id low high = subst (Knows (grid_of width seed)) (let e : id - 1 + 1 ≡ id = omega arith in e) (knows (id - 1) (omega arith))

  known : (id : ℕ) → Knows (grid_of width seed) id → (i : ℕ) × (i < width * width) × (id ≡ i + 1)
  unfolding grid_of
  known id h =
      let n : (n : Node) × Contains (map (grid_node width) (range_with_len 0 (width * width))) n × (n.id ≡ id) = Contains-from_map (λ (n : Node). n.id) (map (grid_node width) (range_with_len 0 (width * width))) id h in
      let i : (i : ℕ) × Contains (range_with_len 0 (width * width)) i × (grid_node width i ≡ n.0) = Contains-from_map (grid_node width) (range_with_len 0 (width * width)) n.0 n.1 in
      (i.0, range_of (width * width) i.0 i.1, sym n.2 ∙ ap (λ (m : Node). m.id) (sym i.2))

  -- the node to which a road of the grid leads
  pub record GridRoad (r : Road) : Type 0 where
    pub place : ℕ
    pub within : place < width * width
    pub from : r.a ≡ place + 1
    pub to : ((r.b ≡ place + 2) × (place % width + 1 < width)) ⊎ ((r.b ≡ place + 1 + width) × (place / width + 1 < width))
    pub short : r.length < 2 ^ 32

  grid_road : (r : Road) → Contains (grid_of width seed).roads r → GridRoad r
  unfolding grid_of
  grid_road r h =
      let o : RoadBetween (flat_map (ends_of width) (range_with_len 0 (width * width))) r = road_of (first_state seed) (flat_map (ends_of width) (range_with_len 0 (width * width))) r h in
      let i : (i : ℕ) × Contains (range_with_len 0 (width * width)) i × Contains (ends_of width i) o.pair = flat_of (ends_of width) (range_with_len 0 (width * width)) o.pair o.among in
      elim (ends_cases width i.0 o.pair i.2) [
        | inl c ↦ record { place = i.0; within = range_of (width * width) i.0 i.1; from = o.from ∙ c.0; to = inl (o.to ∙ c.1, c.2); short = o.short }
        | inr c ↦ record { place = i.0; within = range_of (width * width) i.0 i.1; from = o.from ∙ c.0; to = inr (o.to ∙ c.1, c.2); short = o.short }
      ]

  joins_two : (r : Road) → Contains (grid_of width seed).roads r → JoinsTwo (grid_of width seed) r
  joins_two r h =
      let g : GridRoad r = grid_road r h in
      let from : Knows (grid_of width seed) r.a = subst (Knows (grid_of width seed)) (sym g.from) (knows g.place g.within) in
      elim g.to [
        | inl c ↦ (from, subst (Knows (grid_of width seed)) (let e : g.place + 1 + 1 ≡ r.b = omega (arith, c.0) in e) (knows (g.place + 1) (omega (arith, right_fits width g.place (omega arith) g.within c.1))), (λ e. omega (arith, e, g.from, c.0)), g.short)
        | inr c ↦ (from, subst (Knows (grid_of width seed)) (let e : g.place + width + 1 ≡ r.b = omega (arith, c.0) in e) (knows (g.place + width) (omega (arith, below_fits width g.place (omega arith) g.within c.1))), (λ e. omega (arith, e, g.from, c.0)), g.short)
      ]

  -- the ids of a node's neighbours
  beside : ℕ → List ℕ
  beside id = (id - 1) ∷ (id + 1) ∷ (id - width) ∷ (id + width) ∷ []

  beside_1 : (id to : ℕ) → to ≡ id - 1 → Contains (beside id) to
  unfolding beside
  beside_1 id to e = subst (Contains (beside id)) (sym e) (first_of_four (id - 1) (id + 1) (id - width) (id + width))

  beside_2 : (id to : ℕ) → to ≡ id + 1 → Contains (beside id) to
  unfolding beside
  beside_2 id to e = subst (Contains (beside id)) (sym e) (second_of_four (id - 1) (id + 1) (id - width) (id + width))

  beside_3 : (id to : ℕ) → to ≡ id - width → Contains (beside id) to
  unfolding beside
  beside_3 id to e = subst (Contains (beside id)) (sym e) (third_of_four (id - 1) (id + 1) (id - width) (id + width))

  beside_4 : (id to : ℕ) → to ≡ id + width → Contains (beside id) to
  unfolding beside
  beside_4 id to e = subst (Contains (beside id)) (sym e) (fourth_of_four (id - 1) (id + 1) (id - width) (id + width))

  leads_beside : (id to : ℕ) (r : Road) (back : Bool) → GridRoad r → hop_start (record { road = r; back = back }) ≡ id → hop_end (record { road = r; back = back }) ≡ to → Contains (beside id) to
  leads_beside id to r true g start end = elim g.to [
    | inl c ↦ beside_1 id to (omega (arith, start, end, g.from, c.0))
    | inr c ↦ beside_3 id to (omega (arith, start, end, g.from, c.0))
  ]
  leads_beside id to r false g start end = elim g.to [
    | inl c ↦ beside_2 id to (omega (arith, start, end, g.from, c.0))
    | inr c ↦ beside_4 id to (omega (arith, start, end, g.from, c.0))
  ]

  arc_beside : (id : ℕ) (x : Arc) → Contains (arcs_out (grid_of width seed).roads id) x → Contains (beside id) x.to
  arc_beside id x h =
      let o : HopOf (grid_of width seed).roads id x = arcs_out-sound (grid_of width seed).roads id x h in
      leads_beside id x.to o.hop.road o.hop.back (grid_road o.hop.road o.among) o.leaves o.leads

  few_arcs : (id : ℕ) → ¬ IsCrowded (grid_of width seed) id
  unfolding beside
  few_arcs id crowded =
      let arcs : List Arc = arcs_out (grid_of width seed).roads id in
      let few : length (map (λ (x : Arc). x.to) (arcs_out (grid_of width seed).roads id)) ≤ length (beside id) = length-le_from_is_member nat_eq_equiv (map (λ (x : Arc). x.to) (arcs_out (grid_of width seed).roads id)) (beside id) (rises_distinct (arcs_out (grid_of width seed).roads id) (arcs_out-rise (grid_of width seed).roads id)) (λ q any. list_any-from_Contains nat_eq_equiv q (beside id) (to_beside q (Contains-from_any same_number q (map (λ (x : Arc). x.to) (arcs_out (grid_of width seed).roads id)) any))) in
      omega (arith, few, crowded, length-map (arcs_out (grid_of width seed).roads id) (λ (x : Arc). x.to))
    where
      to_beside : (q : ℕ) → Contains (map (λ (x : Arc). x.to) (arcs_out (grid_of width seed).roads id)) q → Contains (beside id) q
      to_beside q h =
          let x : (x : Arc) × Contains (arcs_out (grid_of width seed).roads id) x × (x.to ≡ q) = Contains-from_map (λ (x : Arc). x.to) (arcs_out (grid_of width seed).roads id) q h in
          subst (Contains (beside id)) x.2 (arc_beside id x.0 x.1)

  sized : IsSized (grid_of width seed)
  unfolding grid_of
  sized =
      let nodes : length (map (grid_node width) (range_with_len 0 (width * width))) ≡ width * width = length-map-range_with_len (grid_node width) 0 (width * width) in
      let few : width * width ≤ 65536 = square_small width narrow in
      let some : width * 1 ≤ width * width = mul-le-mul_left {m = 1} {n = width} width (omega arith) in
      let roads : length (flat_map (ends_of width) (range_with_len 0 (width * width))) ≤ 2 * length (range_with_len 0 (width * width)) = few_ends width (range_with_len 0 (width * width)) in
      (omega arith, omega arith, omega (arith, length-lengths (first_state seed) (flat_map (ends_of width) (range_with_len 0 (width * width))), length-range_with_len 0 (width * width)))

  distinct : (id : ℕ) → ¬ StandsTwice (grid_of width seed).nodes id
  unfolding grid_of
  distinct id twice = omega (arith, twice, (at_most_once width 0 (width * width) id).most)

  pub is_map : IsMap (grid_of width seed)
  is_map = record {
    sized = sized;
    distinct = λ id twice. distinct id twice;
    joined = λ k r lt is. joins_two r (contains_at (grid_of width seed).roads k r is);
    uncrowded = few_arcs;
  }

  place_within : (row column : ℕ) → row < width → column < width → width * row + column < width * width
  place_within row column down across = omega (arith, rows_fit width row down)

  road_right : (row column : ℕ) → row < width → column + 1 < width → HasRoadBetween (grid_of width seed).roads (row * width + column + 1) (row * width + column + 2)
  unfolding grid_of
  road_right row column down across =
      let i : ℕ = row * width + column in
      road_at (first_state seed) (flat_map (ends_of width) (range_with_len 0 (width * width))) (row * width + column + 1, row * width + column + 2)
      (in_flat (ends_of width) (range_with_len 0 (width * width)) (row * width + column) (row * width + column + 1, row * width + column + 2)
      (in_range (width * width) (row * width + column) (omega (arith, place_within row column down (omega (arith, across)))))
      (Contains-append_left (right_of width (row * width + column)) (below_of width (row * width + column)) (row * width + column + 1, row * width + column + 2)
      (here_if (nat_lt ((row * width + column) % width + 1) width) (row * width + column + 1, row * width + column + 2) (test_below _ _ (omega (arith, mod-mul-add row width column (omega (arith, across)), across))))))

  road_below : (row : ℕ) → row + 1 < width → HasRoadBetween (grid_of width seed).roads (row * width + 0 + 1) (row * width + 0 + 1 + width)
  unfolding grid_of
  road_below row down =
      road_at (first_state seed) (flat_map (ends_of width) (range_with_len 0 (width * width))) (row * width + 0 + 1, row * width + 0 + 1 + width)
      (in_flat (ends_of width) (range_with_len 0 (width * width)) (row * width + 0) (row * width + 0 + 1, row * width + 0 + 1 + width)
      (in_range (width * width) (row * width + 0) (omega (arith, place_within row 0 (omega (arith, down)) (omega arith))))
      (Contains-append_right (right_of width (row * width + 0)) (below_of width (row * width + 0)) (row * width + 0 + 1, row * width + 0 + 1 + width)
      (here_if (nat_lt ((row * width + 0) / width + 1) width) (row * width + 0 + 1, row * width + 0 + 1 + width) (test_below _ _ (omega (arith, div-mul-add row width 0 (omega arith), down))))))

  abbrev Reached : ℕ → Type 0
  Reached id = Both (grid_of width seed).roads 1 id

  same_reached : (a b : ℕ) → a ≡ b → Reached a → Reached b
  same_reached a b e h = subst Reached e h

  down_reached : (row : ℕ) → row < width → Reached (row * width + 1)
  down_reached zero lt = same_reached 1 (0 * width + 1) (omega arith) (both_here (grid_of width seed).roads 1)
  down_reached (suc row) lt =
      both_on (grid_of width seed).roads 1 (row * width + 1) (suc row * width + 1) (down_reached row (omega (arith, lt)))
      (subst (λ t. Both (grid_of width seed).roads (row * width + 1) t) (let e : row * width + 0 + 1 + width ≡ suc row * width + 1 = grind arith in e)
      (subst (λ t. Both (grid_of width seed).roads t (row * width + 0 + 1 + width)) (let e : row * width + 0 + 1 ≡ row * width + 1 = omega arith in e)
      (both_over (grid_of width seed).roads (row * width + 0 + 1) (row * width + 0 + 1 + width) (road_below row (omega (arith, lt))))))

  across_reached : (row : ℕ) → row < width → (column : ℕ) → column < width → Reached (row * width + column + 1)
  across_reached row down zero lt = same_reached (row * width + 1) (row * width + 0 + 1) (omega arith) (down_reached row down)
  across_reached row down (suc column) lt =
      both_on (grid_of width seed).roads 1 (row * width + column + 1) (row * width + suc column + 1) (across_reached row down column (omega (arith, lt)))
      (subst (λ t. Both (grid_of width seed).roads (row * width + column + 1) t) (let e : row * width + column + 2 ≡ row * width + suc column + 1 = omega arith in e)
      (both_over (grid_of width seed).roads (row * width + column + 1) (row * width + column + 2) (road_right row column down (omega (arith, lt)))))

  reached : (i : ℕ) → i < width * width → Reached (i + 1)
  reached i lt =
      let column : i % width < width = omega arith in
      same_reached (i / width * width + i % width + 1) (i + 1) (omega arith)
      (across_reached (i / width) (row_of_place width i (omega arith) lt) (i % width) column)

  pub is_connected : IsConnected (grid_of width seed)
  is_connected s t from to =
      let i : (i : ℕ) × (i < width * width) × (s ≡ i + 1) = known s from in
      let j : (i : ℕ) × (i < width * width) × (t ≡ i + 1) = known t to in
      let a : Reached s = same_reached (i.0 + 1) s (sym i.2) (reached i.0 i.1) in
      let b : Reached t = same_reached (j.0 + 1) t (sym j.2) (reached j.0 j.1) in
      let walk : Linked (grid_of width seed).roads s t = linked_on (grid_of width seed).roads s 1 t a.1 b.0 in
      (total walk.hops, record { walk = record { start = s; hops = walk.hops }; known = from; starts = refl; follows = walk.follows; ends = walk.ends; sums = refl })
