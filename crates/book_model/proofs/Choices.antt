-- Which of two nodes comes first: in a tie of farthest landmarks, in a tie of references, and in orders.
use Rattle.std.proofs.Common.{◌≡◌, ℕ, ◌+◌, ◌*◌, ◌/◌, ◌==◌, pos, Option, None, Some, List, [], ◌∷◌, ◌++◌, replicate, get_or, if◌then◌else◌, refl}
use Rattle.std.specs.Prelude.{◌%◌}
use Rattle.road_map.specs.declared.parts.Parts.{Parts}
use Rattle.road_map.specs.declared.parts.Node.{Node}
use Rattle.road_map.specs.declared.parts.Road.{Road}
use Rattle.road_leaf.specs.declared.leaf.Extra.TheVariants.{Own, Near}
use Rattle.book_model.specs.declared.settings.Settings.{Settings}
use Rattle.book_model.specs.Sorting.{sorted_by}
use Rattle.book_model.specs.Orders.{depth, dive}
use Rattle.book_model.specs.Landmarks.{picked, extra_of, extras_of}
use Rattle.book_model.specs.Books.{seed_text, leaf_order}
use Rattle.book_model.proofs.Five.{five_nodes}

-- distances from node 1: nodes 3 and 4 are equally far, or no walk reaches them
abbrev far : Option ℕ → ℕ → ℕ → Option ℕ
far d s t = if s == t then Some 0 else if s == 1 then (if t == 2 then Some 4 else d) else Some 1

lesser_of_two_far : picked (far (Some 9)) (1 ∷ 2 ∷ 3 ∷ 4 ∷ []) 2 ≡ 1 ∷ 3 ∷ []
unfolding picked
lesser_of_two_far = refl

lesser_of_two_unreached : picked (far None) (1 ∷ 2 ∷ 3 ∷ 4 ∷ []) 2 ≡ 1 ∷ 3 ∷ []
unfolding picked
lesser_of_two_unreached = refl

-- nodes 20 and 21 are as near to 10 as to 30; 21 is nearest to 20, which stores no codes of its own
the_latest_that_keeps_its_own : extras_of (λ v. v / 10 ∷ []) 1 [] (10 ∷ 30 ∷ 20 ∷ 21 ∷ []) ≡ Own (1 ∷ []) ∷ Own (3 ∷ []) ∷ Near 30 1 ∷ Near 30 1 ∷ []
unfolding extras_of
the_latest_that_keeps_its_own = refl

-- nodes 7 and 8 have the same code; all others have another one
abbrev codes : ℕ → List ℕ
codes v = (if v == 7 then 3 else if v == 8 then 3 else 5) ∷ []

within_its_threshold : extra_of codes 2 (5 ∷ 7 ∷ []) 8 ≡ Near 5 2
within_its_threshold = refl

the_last_64 : extra_of codes 0 (replicate 63 5 ++ 7 ∷ []) 8 ≡ Near 7 0
the_last_64 = refl

not_the_one_before : extra_of codes 0 (replicate 64 5 ++ 7 ∷ []) 8 ≡ Own (3 ∷ [])
not_the_one_before = refl

seed_before_id : seed_text 258 772 ≡ 0 ∷ 0 ∷ 0 ∷ 0 ∷ 0 ∷ 0 ∷ 1 ∷ 2 ∷ 0 ∷ 0 ∷ 3 ∷ 4 ∷ []
seed_before_id = refl

abbrev shuffled_by : ℕ → Settings
shuffled_by seed = record { method = 1; version = 3; order = 5; seed = seed; fan = 2; p1 = 0; p2 = 0; p3 = 0 }

-- a stand-in for a hash, of two octets: 0, and an octet made from the last octets of the seed and of the id
abbrev stand_in : List ℕ → List ℕ
stand_in text = 0 ∷ (get_or text 7 0 + 3 * get_or text 11 0) % 5 ∷ []

shuffled_without_a_seed : leaf_order stand_in five_nodes (shuffled_by 0) ≡ 5 ∷ 2 ∷ 4 ∷ 1 ∷ 3 ∷ []
unfolding sorted_by
shuffled_without_a_seed = refl

shuffled_by_a_seed : leaf_order stand_in five_nodes (shuffled_by 1) ≡ 3 ∷ 5 ∷ 2 ∷ 4 ∷ 1 ∷ []
unfolding sorted_by
shuffled_by_a_seed = refl

equal_hashes_by_id : leaf_order (λ text. []) five_nodes (shuffled_by 1) ≡ 1 ∷ 2 ∷ 3 ∷ 4 ∷ 5 ∷ []
unfolding sorted_by
equal_hashes_by_id = refl

abbrev node : ℕ → Node
node id = record { id = id; x = pos 0; y = pos 0 }

abbrev road : ℕ → ℕ → Road
road a b = record { a = a; b = b; length = 1 }

-- Node 4 is a neighbour of 1 and of 1's neighbour 2, which also has a neighbour 5. Node 3 has no road.
abbrev branched : Parts
branched = record {
  nodes = node 1 ∷ node 2 ∷ node 3 ∷ node 4 ∷ node 5 ∷ node 6 ∷ [];
  roads = road 1 2 ∷ road 1 4 ∷ road 2 4 ∷ road 2 5 ∷ road 4 6 ∷ [];
}

-- In breadth-first order, 5 comes before 6. If nodes counted as visited once they wait, 5 would come before 4. If
-- only the first branch were taken, 3 would come before 5.
second_branch_after_the_first : depth branched ≡ 1 ∷ 2 ∷ 4 ∷ 6 ∷ 5 ∷ 3 ∷ []
unfolding sorted_by dive
second_branch_after_the_first = refl

-- A depth-first tour goes as deep as there are nodes: along a line it finds all of them, and a single node is a
-- tour.
abbrev line : Parts
line = record {
  nodes = node 1 ∷ node 2 ∷ node 3 ∷ node 4 ∷ node 5 ∷ [];
  roads = road 1 5 ∷ road 5 2 ∷ road 2 4 ∷ road 4 3 ∷ [];
}

to_the_end_of_a_line : depth line ≡ 1 ∷ 5 ∷ 2 ∷ 4 ∷ 3 ∷ []
unfolding sorted_by dive
to_the_end_of_a_line = refl

one_node_is_a_tour : depth (record { nodes = node 7 ∷ []; roads = [] }) ≡ 7 ∷ []
unfolding sorted_by dive
one_node_is_a_tour = refl
