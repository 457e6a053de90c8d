-- Settings and counts at their limits, and one beyond them.
use Rattle.std.proofs.Common.{◌≡◌, ℕ, None, Some, length, refl}
use Rattle.road_map.specs.declared.parts.Parts.{Parts}
use Rattle.book_model.specs.declared.settings.Settings.{Settings}
use Rattle.book_model.specs.declared.settings.PlanError.TheVariants as plan
use Rattle.book_model.specs.Sorting.{sorted_by}
use Rattle.book_model.specs.Books.{Hyp, kind_of, borders, first_number, second_number, plan_fault}
use Rattle.book_model.proofs.Five.{five_nodes}
use Rattle.book_model.proofs.FiveBooks.{with}

-- DIJ in an order, with a fan-out
abbrev ordered : ℕ → ℕ → Settings
ordered order fan = record { method = 1; version = 3; order = order; seed = 0; fan = fan; p1 = 0; p2 = 0; p3 = 0 }

-- the sixth order and the greatest fan-out
shuffled_of_32 : plan_fault (kind_of 1) five_nodes (ordered 5 32) ≡ None
shuffled_of_32 = refl

no_order_six : plan_fault (kind_of 1) five_nodes (ordered 6 33) ≡ Some (plan.Settings 1)
no_order_six = refl

fan_of_33 : plan_fault (kind_of 1) five_nodes (ordered 5 33) ≡ Some (plan.Settings 2)
fan_of_33 = refl

fan_of_one : plan_fault (kind_of 1) five_nodes (ordered 0 1) ≡ Some (plan.Settings 2)
fan_of_one = refl

-- FULL: 1,024 nodes, and one node more
full_of_1024_nodes : (parts : Parts) → length parts.nodes ≡ 1024 → plan_fault (kind_of 2) parts (with 2 0 0 0) ≡ None
full_of_1024_nodes parts h = rw h refl

full_of_1025_nodes : (parts : Parts) → length parts.nodes ≡ 1025 → plan_fault (kind_of 2) parts (with 2 0 0 0) ≡ Some (plan.TooManyNodes 1025)
full_of_1025_nodes parts h = rw h refl

-- LDM: 64 landmarks, and one landmark more whatever the map; codes of 1 to 16 bits; the greatest threshold
landmarks_of_64 : (parts : Parts) → length parts.nodes ≡ 65 → plan_fault (kind_of 3) parts (with 3 64 16 65534) ≡ None
landmarks_of_64 parts h = rw h refl

landmarks_of_65 : (parts : Parts) → plan_fault (kind_of 3) parts (with 3 65 16 65534) ≡ Some (plan.Settings 3)
landmarks_of_65 parts = refl

a_landmark_for_each_node : plan_fault (kind_of 3) five_nodes (with 3 5 1 0) ≡ None
a_landmark_for_each_node = refl

no_landmark : plan_fault (kind_of 3) five_nodes (with 3 0 0 65535) ≡ Some (plan.Settings 3)
no_landmark = refl

codes_of_no_bits : plan_fault (kind_of 3) five_nodes (with 3 1 0 65535) ≡ Some (plan.Settings 4)
codes_of_no_bits = refl

threshold_of_65535 : plan_fault (kind_of 3) five_nodes (with 3 1 1 65535) ≡ Some (plan.Settings 5)
threshold_of_65535 = refl

-- HYP: the first number is the columns, the second the rows
columns_are_first : first_number Hyp five_nodes (with 4 3 2 0) ≡ 3
columns_are_first = refl

rows_are_second : second_number Hyp (with 4 3 2 0) ≡ 2
rows_are_second = refl

hyp_of_1024_columns_and_rows : plan_fault (kind_of 4) five_nodes (with 4 1024 1024 0) ≡ None
unfolding sorted_by
hyp_of_1024_columns_and_rows = refl

columns_of_1025 : plan_fault (kind_of 4) five_nodes (with 4 1025 1025 1) ≡ Some (plan.Settings 3)
columns_of_1025 = refl

rows_of_1025 : plan_fault (kind_of 4) five_nodes (with 4 1024 1025 1) ≡ Some (plan.Settings 4)
rows_of_1025 = refl

hyp_wants_no_third : plan_fault (kind_of 4) five_nodes (with 4 3 1 1) ≡ Some (plan.Settings 5)
hyp_wants_no_third = refl

-- 2,048 border nodes in a grid of 3 columns and 2 rows, and one border node more
hyp_of_2048_borders : (parts : Parts) → length (borders parts 3 2) ≡ 2048 → plan_fault (kind_of 4) parts (with 4 3 2 0) ≡ None
hyp_of_2048_borders parts h = rw h refl

hyp_of_2049_borders : (parts : Parts) → length (borders parts 3 2) ≡ 2049 → plan_fault (kind_of 4) parts (with 4 3 2 0) ≡ Some (plan.TooManyBorders 2049)
hyp_of_2049_borders parts h = rw h refl
