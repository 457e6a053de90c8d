-- Known facts about a graph and about places after reading.
use Rattle.std.proofs.Common.{◌≡◌, ℕ, ◌<◌, ◌≤◌, ◌^◌, ◌==◌, ◌&&◌, ◌⊎◌, inl, inr, nat_le, Bool, true, false, cond, Option, None, Some, List, [], ◌∷◌, length, Result, Ok, Err, codes, refl, sym, ◌∙◌, ap, subst, arith}
use Rattle.std.specs.List.{All}
use Rattle.std.specs.Option.{ok_or}
use Rattle.std.specs.Str.{bytes_eq}
use Rattle.std.specs.Prelude.{FitsSigned}
use Rattle.std.specs.Int.{w32}
use Rattle.std.proofs.lemmas.List.Elements.{All-nil, All-cons, All-weaker}
use Rattle.road_map.specs.declared.parts.Node.{Node}
use Rattle.road_map.specs.declared.parts.Road.{Road}
use Rattle.road_map.specs.declared.parts.Parts.{Parts}
use Rattle.dimacs_reader.specs.declared.arc.Arc.{Arc}
use Rattle.dimacs_reader.specs.declared.graph.Graph.{Graph}
use Rattle.dimacs_reader.specs.declared.problem.GraphSize.{GraphSize}
use Rattle.dimacs_reader.specs.declared.error.DimacsError.{DimacsError}
use Rattle.dimacs_reader.specs.declared.error.DimacsError.TheVariants.{NoProblem, BadLine, BadNumber, TooMany, Range, Count, Repeated, Unpaired, Memory}
use Rattle.dimacs_reader.specs.Told.{told_lines}
use Rattle.dimacs_reader.specs.Fields.{size_in, arc_in, place_in}
use Rattle.dimacs_reader.specs.Dimacs.{◌>>=◌, where_holds, where_none, most_nodes, most_arcs, is_id, graph_size_of, arc_of, each_of, graph_from, graph_of, place_count_of, place_of, places_from, places_of, placed_twice, nodes_of, first_unpaired, roads_of, dimacs_of}
use Rattle.dimacs_reader.proofs.FileLaws.{counted, all_placed}
use Rattle.dimacs_reader.proofs.NodeLaws.{InRange}
use Rattle.dimacs_reader.proofs.FitLaws.{place_fits, arc_fits}
use Rattle.octet_text.specs.Want.{no_memory}

-- the value through which a successful step passed
bind_ok : {A B : Type 0} (said : Result A DimacsError) (next : A → Result B DimacsError) (y : B) → (said >>= next) ≡ Ok y → (x : A) × (said ≡ Ok x) × (next x ≡ Ok y)
bind_ok (Ok x) next y h = (x, refl, h)
bind_ok (Err fault) next y h = cc

where_ok : {A : Type 0} (test : Bool) (fault : DimacsError) (x y : A) → where_holds test fault x ≡ Ok y → (test ≡ true) × (x ≡ y)
where_ok true fault x y h = (refl, cc)
where_ok false fault x y h = cc

none_ok : {A : Type 0} (o : Option ℕ) (fault : ℕ → DimacsError) (x y : A) → where_none o fault x ≡ Ok y → (o ≡ None) × (x ≡ y)
none_ok None fault x y h = (refl, cc)
none_ok (Some n) fault x y h = cc

-- a fact about each line's item holds for all items
each_ok : {A : Type 0} (P : A → Type 0) (says : ℕ → List (List ℕ) → Result A DimacsError) → ((number : ℕ) (words : List (List ℕ)) (x : A) → says number words ≡ Ok x → P x) → (lines : List (ℕ × List (List ℕ))) (xs : List A) → each_of says lines ≡ Ok xs → All P xs
each_ok {A} P says good [] xs h = let none : [] ≡ xs = cc in subst (λ (ys : List A). All P ys) none (All-nil P)
each_ok {A} P says good (line ∷ lines) xs h =
    let first : (x : A) × (says line.0 line.1 ≡ Ok x) × ((each_of says lines >>= (λ rest. Ok (x ∷ rest))) ≡ Ok xs) = bind_ok (says line.0 line.1) (λ first. each_of says lines >>= (λ rest. Ok (first ∷ rest))) xs h in
    let rest : (ys : List A) × (each_of says lines ≡ Ok ys) × (Ok (first.0 ∷ ys) ≡ Ok xs) = bind_ok (each_of says lines) (λ rest. Ok (first.0 ∷ rest)) xs first.2 in
    let is : first.0 ∷ rest.0 ≡ xs = ok_same _ _ rest.2 in
    subst (λ (ys : List A). All P ys) is (All-cons P first.0 rest.0 (good line.0 line.1 first.0 first.1) (each_ok P says good lines rest.0 rest.1))
  where
    ok_same : (a b : List A) → (let r : Result (List A) DimacsError = Ok a in r) ≡ Ok b → a ≡ b
    ok_same a b e = cc

ok_some : {A : Type 0} (o : Option A) (fault : DimacsError) (x : A) → ok_or o fault ≡ Ok x → o ≡ Some x
ok_some None fault x h = cc
ok_some (Some y) fault x h = cc

id_range : (nodes id : ℕ) → is_id nodes id ≡ true → (1 ≤ id) × (id ≤ nodes)
id_range nodes id h = (grind (arith, h), grind (arith, h))

and_both : (a b : Bool) → (a && b) ≡ true → (a ≡ true) × (b ≡ true)
and_both true b h = (refl, h)
and_both false b h = cc

-- a node of a line: its id is in the range, and its coordinates are 32-bit numbers
pub record Placed (nodes : ℕ) (node : Node) : Type 0 where
  pub id : (1 ≤ node.id) × (node.id ≤ nodes)
  pub x : FitsSigned w32 node.x
  pub y : FitsSigned w32 node.y

place_range : (nodes number : ℕ) (words : List (List ℕ)) (node : Node) → place_of nodes number words ≡ Ok node → Placed nodes node
place_range nodes number [] node h = cc
place_range nodes number (a ∷ []) node h = cc
place_range nodes number (a ∷ b ∷ []) node h = cc
place_range nodes number (a ∷ b ∷ c ∷ []) node h = cc
place_range nodes number (a ∷ b ∷ c ∷ d ∷ e ∷ rest) node h = cc
place_range nodes number (kind ∷ id ∷ x ∷ y ∷ []) node h = by_kind (bytes_eq kind (codes "v")) h
  where
    by_kind : (b : Bool) → cond b (ok_or (place_in id x y) (BadNumber 2 number) >>= (λ (node : Node). where_holds (is_id nodes node.id) (Range 2 number) node)) (Err (BadLine 2 number)) ≡ Ok node → Placed nodes node
    by_kind false bad = cc
    by_kind true good =
        let m = bind_ok (ok_or (place_in id x y) (BadNumber 2 number)) (λ (node : Node). where_holds (is_id nodes node.id) (Range 2 number) node) node good in
        let both = where_ok (is_id nodes m.0.id) (Range 2 number) m.0 node m.2 in
        let fits = place_fits id x y m.0 (ok_some (place_in id x y) (BadNumber 2 number) m.0 m.1) in
        subst (λ (n : Node). Placed nodes n) both.1 (record { id = id_range nodes m.0.id both.0; x = fits.0; y = fits.1 })

-- both ends of an arc are nodes
pub record Within (nodes : ℕ) (arc : Arc) : Type 0 where
  pub from : (1 ≤ arc.from) × (arc.from ≤ nodes)
  pub to : (1 ≤ arc.to) × (arc.to ≤ nodes)
  pub short : arc.length < 2 ^ 32

arc_range : (nodes number : ℕ) (words : List (List ℕ)) (arc : Arc) → arc_of nodes number words ≡ Ok arc → Within nodes arc
arc_range nodes number [] arc h = cc
arc_range nodes number (a ∷ []) arc h = cc
arc_range nodes number (a ∷ b ∷ []) arc h = cc
arc_range nodes number (a ∷ b ∷ c ∷ []) arc h = cc
arc_range nodes number (a ∷ b ∷ c ∷ d ∷ e ∷ rest) arc h = cc
arc_range nodes number (kind ∷ from ∷ to ∷ length ∷ []) arc h = by_kind (bytes_eq kind (codes "a")) h
  where
    by_kind : (b : Bool) → cond b (ok_or (arc_in from to length) (BadNumber 1 number) >>= (λ (arc : Arc). where_holds (is_id nodes arc.from && is_id nodes arc.to) (Range 1 number) arc)) (Err (BadLine 1 number)) ≡ Ok arc → Within nodes arc
    by_kind false bad = cc
    by_kind true good =
        let m = bind_ok (ok_or (arc_in from to length) (BadNumber 1 number)) (λ (arc : Arc). where_holds (is_id nodes arc.from && is_id nodes arc.to) (Range 1 number) arc) arc good in
        let both = where_ok (is_id nodes m.0.from && is_id nodes m.0.to) (Range 1 number) m.0 arc m.2 in
        let ends = and_both (is_id nodes m.0.from) (is_id nodes m.0.to) both.0 in
        subst (λ (a : Arc). Within nodes a) both.1 (record { from = id_range nodes m.0.from ends.0; to = id_range nodes m.0.to ends.1; short = arc_fits from to length m.0 (ok_some (arc_in from to length) (BadNumber 1 number) m.0 m.1) })

size_range : (number : ℕ) (words : List (List ℕ)) (size : GraphSize) → graph_size_of number words ≡ Ok size → (size.nodes ≤ most_nodes) × (size.arcs ≤ most_arcs)
size_range number [] size h = cc
size_range number (a ∷ []) size h = cc
size_range number (a ∷ b ∷ []) size h = cc
size_range number (a ∷ b ∷ c ∷ []) size h = cc
size_range number (a ∷ b ∷ c ∷ d ∷ e ∷ rest) size h = cc
size_range number (kind ∷ problem ∷ nodes ∷ arcs ∷ []) size h = by_kind (bytes_eq kind (codes "p") && bytes_eq problem (codes "sp")) h
  where
    below : (a b : ℕ) → nat_le a b ≡ true → a ≤ b
    below a b e = grind (arith, e)

    by_kind : (b : Bool) → cond b (ok_or (size_in nodes arcs) (BadNumber 1 number) >>= (λ (size : GraphSize). where_holds (nat_le size.nodes most_nodes && nat_le size.arcs most_arcs) (TooMany 1) size)) (Err (NoProblem 1)) ≡ Ok size → (size.nodes ≤ most_nodes) × (size.arcs ≤ most_arcs)
    by_kind false bad = cc
    by_kind true good =
        let m = bind_ok (ok_or (size_in nodes arcs) (BadNumber 1 number)) (λ (size : GraphSize). where_holds (nat_le size.nodes most_nodes && nat_le size.arcs most_arcs) (TooMany 1) size) size good in
        let both = where_ok (nat_le m.0.nodes most_nodes && nat_le m.0.arcs most_arcs) (TooMany 1) m.0 size m.2 in
        let counts = and_both (nat_le m.0.nodes most_nodes) (nat_le m.0.arcs most_arcs) both.0 in
        subst (λ (s : GraphSize). (s.nodes ≤ most_nodes) × (s.arcs ≤ most_arcs)) both.1 (below m.0.nodes most_nodes counts.0, below m.0.arcs most_arcs counts.1)

same_number : (a b : ℕ) → (a == b) ≡ true → a ≡ b
same_number a b e = grind (arith, e)

-- the arcs of a graph join its nodes, and they are not too many
pub record GraphRange (graph : Graph) : Type 0 where
  pub within : All (Within graph.nodes) graph.arcs
  pub few : length graph.arcs ≤ most_arcs
  pub small : graph.nodes ≤ most_nodes

pub graph_range : (text : List ℕ) (graph : Graph) → graph_of text ≡ Ok graph → GraphRange graph
unfolding graph_of
graph_range text graph h = by_lines (told_lines 0 text) h
  where
    by_lines : (lines : List (ℕ × List (List ℕ))) → graph_from lines ≡ Ok graph → GraphRange graph
    by_lines [] bad = cc
    by_lines (problem ∷ lines) good =
        let size = bind_ok (graph_size_of problem.0 problem.1) (λ (size : GraphSize). each_of (arc_of size.nodes) lines >>= counted size) graph good in
        let arcs = bind_ok (each_of (arc_of size.0.nodes) lines) (counted size.0) graph size.2 in
        let made : Graph = record { nodes = size.0.nodes; arcs = arcs.0 } in
        let is = where_ok (length arcs.0 == size.0.arcs) (Count 1) made graph arcs.2 in
        let long : length arcs.0 ≡ size.0.arcs = same_number (length arcs.0) size.0.arcs is.0 in
        let within : All (Within size.0.nodes) arcs.0 = each_ok (Within size.0.nodes) (arc_of size.0.nodes) (arc_range size.0.nodes) lines arcs.0 arcs.1 in
        let most : (size.0.nodes ≤ most_nodes) × (size.0.arcs ≤ most_arcs) = size_range problem.0 problem.1 size.0 size.1 in
        subst (λ (g : Graph). GraphRange g) is.1 (record { within = within; few = omega (arith, most.1); small = most.0 })

-- there are as many places as nodes, and their ids are those of nodes
pub record PlacesRange (nodes : ℕ) (places : List Node) : Type 0 where
  pub placed : All (Placed nodes) places
  pub long : length places ≡ nodes

pub in_range : (nodes : ℕ) (places : List Node) → PlacesRange nodes places → InRange places nodes
in_range nodes places range = All-weaker (Placed nodes) (λ (n : Node). (1 ≤ n.id) × (n.id ≤ nodes)) (λ n p. p.id) places range.placed

pub places_range : (nodes : ℕ) (text : List ℕ) (places : List Node) → places_of nodes text ≡ Ok places → PlacesRange nodes places
unfolding places_of
places_range nodes text places h = by_lines (told_lines 0 text) h
  where
    by_lines : (lines : List (ℕ × List (List ℕ))) → places_from nodes lines ≡ Ok places → PlacesRange nodes places
    by_lines [] bad = cc
    by_lines (problem ∷ lines) good =
        let count = bind_ok (place_count_of problem.0 problem.1) (λ (count : ℕ). each_of (place_of count) lines >>= all_placed nodes count) places good in
        let list = bind_ok (each_of (place_of count.0) lines) (all_placed nodes count.0) places count.2 in
        let both = where_ok ((count.0 == nodes) && (length list.0 == count.0)) (Count 2) list.0 places list.2 in
        let tests = and_both (count.0 == nodes) (length list.0 == count.0) both.0 in
        let same : count.0 ≡ nodes = same_number count.0 nodes tests.0 in
        let long : length list.0 ≡ count.0 = same_number (length list.0) count.0 tests.1 in
        let range : All (Placed count.0) list.0 = each_ok (Placed count.0) (place_of count.0) (place_range count.0) lines list.0 list.1 in
        subst (λ (ps : List Node). PlacesRange nodes ps) both.1 (record { placed = subst (λ n. All (Placed n) list.0) same range; long = long ∙ same })

-- ---- the steps of reading two files

abbrev pub with_nodes : Graph → List Node → Result Parts DimacsError
with_nodes graph nodes = where_none (first_unpaired graph.arcs) (λ index. Unpaired index) (roads_of graph.arcs) >>= (λ roads. Ok (record { nodes = nodes; roads = roads }))

abbrev pub nodes_from : ℕ → List Node → Result (List Node) DimacsError
nodes_from nodes places = where_none (placed_twice nodes places) (λ id. Repeated id) (nodes_of nodes places)

abbrev pub with_places : Graph → List Node → Result Parts DimacsError
with_places graph places = nodes_from graph.nodes places >>= with_nodes graph

abbrev pub with_graph : List ℕ → Graph → Result Parts DimacsError
with_graph places graph = places_of graph.nodes places >>= with_places graph

dimacs_after : (text places : List ℕ) (said : Result Graph DimacsError) → graph_of text ≡ said → dimacs_of text places ≡ (said >>= with_graph places)
unfolding dimacs_of
dimacs_after text places said h = ap (λ (said : Result Graph DimacsError). said >>= with_graph places) h

pub bad_graph : (text places : List ℕ) (fault : DimacsError) → (fault ≡ Memory no_memory) ⊎ (graph_of text ≡ Err fault) → (fault ≡ Memory no_memory) ⊎ (dimacs_of text places ≡ Err fault)
bad_graph text places fault (inl memory) = inl memory
bad_graph text places fault (inr bad) = inr (dimacs_after text places (Err fault) bad)

module _ (text places : List ℕ) (graph : Graph) (read : graph_of text ≡ Ok graph) where
  placing : (said : Result (List Node) DimacsError) → places_of graph.nodes places ≡ said → dimacs_of text places ≡ (said >>= with_places graph)
  placing said h = dimacs_after text places (Ok graph) read ∙ ap (λ (said : Result (List Node) DimacsError). said >>= with_places graph) h

  pub bad_places : (fault : DimacsError) → (fault ≡ Memory no_memory) ⊎ (places_of graph.nodes places ≡ Err fault) → (fault ≡ Memory no_memory) ⊎ (dimacs_of text places ≡ Err fault)
  bad_places fault (inl memory) = inl memory
  bad_places fault (inr bad) = inr (placing (Err fault) bad)

  pub few_arcs : length graph.arcs < 2 ^ 32
  few_arcs = omega (arith, (graph_range text graph read).few)

  module _ (list : List Node) (placed : places_of graph.nodes places ≡ Ok list) where
    naming : (said : Result (List Node) DimacsError) → said ≡ nodes_from graph.nodes list → dimacs_of text places ≡ (said >>= with_nodes graph)
    naming said h = placing (Ok list) placed ∙ ap (λ (said : Result (List Node) DimacsError). said >>= with_nodes graph) (sym h)

    pub bad_nodes : (fault : DimacsError) → Err fault ≡ nodes_from graph.nodes list → dimacs_of text places ≡ Err fault
    bad_nodes fault bad = naming (Err fault) bad

    pub bad_pairs : (nodes : List Node) (fault : DimacsError) → Ok nodes ≡ nodes_from graph.nodes list → (fault ≡ Memory no_memory) ⊎ ((index : ℕ) × (fault ≡ Unpaired index) × (first_unpaired graph.arcs ≡ Some index)) → (fault ≡ Memory no_memory) ⊎ (dimacs_of text places ≡ Err fault)
    bad_pairs nodes fault named (inl memory) = inl memory
    bad_pairs nodes fault named (inr bad) =
        inr (naming (Ok nodes) named
        ∙ (ap (λ o. where_none o (λ index. Unpaired index) (roads_of graph.arcs) >>= (λ roads. Ok (record { nodes = nodes; roads = roads }))) bad.2
        ∙ ap Err (sym bad.1)))

    pub all_read : (nodes : List Node) → Ok nodes ≡ nodes_from graph.nodes list → first_unpaired graph.arcs ≡ None → dimacs_of text places ≡ Ok (record { nodes = nodes; roads = roads_of graph.arcs })
    all_read nodes named paired =
        naming (Ok nodes) named
        ∙ ap (λ o. where_none o (λ index. Unpaired index) (roads_of graph.arcs) >>= (λ roads. Ok (record { nodes = nodes; roads = roads }))) paired

-- the contents of two files that are read
pub record Reads (graph : Graph) (text : List ℕ) (parts : Parts) : Type 0 where
  pub places : List Node
  pub placed : places_of graph.nodes text ≡ Ok places
  pub once : placed_twice graph.nodes places ≡ None
  pub paired : first_unpaired graph.arcs ≡ None
  pub is : parts ≡ record { nodes = nodes_of graph.nodes places; roads = roads_of graph.arcs }

-- the graph exists
pub has_graph : (text places : List ℕ) (parts : Parts) → dimacs_of text places ≡ Ok parts → (graph : Graph) × (graph_of text ≡ Ok graph)
has_graph text places parts all =
    let graph = bind_ok (graph_of text) (with_graph places) parts (sym (dimacs_after text places (graph_of text) refl) ∙ all) in
    (graph.0, graph.1)

pub dimacs_reads : (text places : List ℕ) (graph : Graph) (parts : Parts) → graph_of text ≡ Ok graph → dimacs_of text places ≡ Ok parts → Reads graph places parts
dimacs_reads text places graph parts read all =
    let h : with_graph places graph ≡ Ok parts = sym (dimacs_after text places (Ok graph) read) ∙ all in
    let list = bind_ok (places_of graph.nodes places) (with_places graph) parts h in
    let nodes = bind_ok (nodes_from graph.nodes list.0) (with_nodes graph) parts list.2 in
    let roads = bind_ok (where_none (first_unpaired graph.arcs) (λ index. Unpaired index) (roads_of graph.arcs)) (λ roads. Ok (record { nodes = nodes.0; roads = roads })) parts nodes.2 in
    let once = none_ok (placed_twice graph.nodes list.0) (λ id. Repeated id) (nodes_of graph.nodes list.0) nodes.0 nodes.1 in
    let paired = none_ok (first_unpaired graph.arcs) (λ index. Unpaired index) (roads_of graph.arcs) roads.0 roads.1 in
    record {
      places = list.0;
      placed = list.1;
      once = once.0;
      paired = paired.0;
      is = sym (ap (λ (ns : List Node). with_roads ns (roads_of graph.arcs)) once.1 ∙ (ap (with_roads nodes.0) paired.1 ∙ same_parts (with_roads nodes.0 roads.0) parts roads.2));
    }
  where
    with_roads : List Node → List Road → Parts
    with_roads nodes roads = record { nodes = nodes; roads = roads }

    same_parts : (a b : Parts) → (let r : Result Parts DimacsError = Ok a in r) ≡ Ok b → a ≡ b
    same_parts a b e = cc
