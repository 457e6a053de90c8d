-- More positions than the chosen ones, and a chain over a chain.
use Rattle.std.proofs.Common.{◌≡◌, ℕ, ◌<◌, Some, List, length, slice_get, get_or, arith, ap, ◌∙◌}
use Rattle.std.proofs.lemmas.Option.{slice_get-get_or, slice_get_within}
use Rattle.std.specs.List.{All, Contains}
use Rattle.std.proofs.lemmas.List.Elements.{All-contains}
use Rattle.road_map.specs.declared.arc.Arc.{Arc}
use Rattle.road_map.specs.declared.parts.Node.{Node}
use Rattle.road_map.specs.declared.parts.Parts.{Parts}
use Rattle.road_map.specs.Maps.{IsById}
use Rattle.road_map.proofs.Among.{contains_at}
use Rattle.book_model.specs.declared.frame.Frame.{Frame}
use Rattle.book_model.specs.Frames.{InFrame}
use Rattle.pair_dist.specs.Chains.{Begins, Keeps}

-- the numbers of the first positions themselves
pub own_within : (places others own : List ℕ) → Begins places others → length own ≡ length places → ((i n : ℕ) → slice_get own i ≡ Some n → n ≡ i) → (i n : ℕ) → slice_get own i ≡ Some n → n < length others
own_within places others own begins long each i n at =
    let same : n ≡ i = each i n at in
    let lt : i < length own = slice_get_within own i n at in
    let there : slice_get places i ≡ Some (get_or places i 0) = slice_get-get_or places i 0 (omega (arith, lt, long)) in
    let within : i < length others = slice_get_within others i (get_or places i 0) (begins i (get_or places i 0) there) in
    omega (arith, within, same)

own_at : (places own : List ℕ) → length own ≡ length places → ((i n : ℕ) → slice_get own i ≡ Some n → n ≡ i) → (i p : ℕ) → slice_get places i ≡ Some p → slice_get own i ≡ Some i
own_at places own long each i p at =
    let lt : i < length places = slice_get_within places i p at in
    let there : slice_get own i ≡ Some (get_or own i 0) = slice_get-get_or own i 0 (omega (arith, lt, long)) in
    there ∙ ap Some (each i (get_or own i 0) there)

-- lengths kept between more positions, and lengths over these kept between the first of them
pub keeps_over : (rows fine chain : List (List Arc)) (places others own : List ℕ) → Begins places others → length own ≡ length places → ((i n : ℕ) → slice_get own i ≡ Some n → n ≡ i) → Keeps rows others fine → Keeps fine own chain → Keeps rows places chain
keeps_over rows fine chain places others own begins long each finer over i j p q o at to least =
    finer i j p q o (begins i p at) (begins j q to) (over i j i j o (own_at places own long each i p at) (own_at places own long each j q to) least)

-- the node at a position belongs to the map
pub node_among : (parts : Parts) (order : List Node) → IsById parts.nodes order → (p : ℕ) (n : Node) → slice_get order p ≡ Some n → Contains parts.nodes n
node_among parts order by p n at = (by.same n).1 (contains_at order p n at)

-- and lies in a frame that holds all nodes
pub in_frame : (parts : Parts) (order : List Node) (frame : Frame) → IsById parts.nodes order → All (InFrame frame) parts.nodes → (p : ℕ) (n : Node) → slice_get order p ≡ Some n → InFrame frame n
in_frame parts order frame by all p n at = All-contains (InFrame frame) parts.nodes n all (node_among parts order by p n at)
