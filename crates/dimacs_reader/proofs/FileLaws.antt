-- The contents of a file, step by step.
use Rattle.std.proofs.Common.{◌≡◌, ◌≢◌, ◌⊎◌, inl, inr, ℕ, ◌==◌, ◌&&◌, Bool, true, false, arith, List, [], ◌∷◌, length, Result, Ok, Err, sym, ◌∙◌, ap}
use Rattle.road_map.specs.declared.parts.Node.{Node}
use Rattle.dimacs_reader.specs.declared.arc.Arc.{Arc}
use Rattle.dimacs_reader.specs.declared.graph.Graph.{Graph}
use Rattle.dimacs_reader.specs.declared.problem.GraphSize.{GraphSize}
use Rattle.dimacs_reader.specs.declared.error.DimacsError.{DimacsError}
use Rattle.dimacs_reader.specs.declared.error.DimacsError.TheVariants.{NoProblem, Count, Memory}
use Rattle.dimacs_reader.specs.Told.{told_lines}
use Rattle.dimacs_reader.specs.Dimacs.{◌>>=◌, where_holds, graph_size_of, arc_of, each_of, graph_from, graph_of, place_count_of, place_of, places_from, places_of}
use Rattle.octet_text.specs.Want.{no_memory}

-- a graph of these arcs, if their number is the declared one
abbrev pub counted : GraphSize → List Arc → Result Graph DimacsError
counted size arcs = where_holds (length arcs == size.arcs) (Count 1) (record { nodes = size.nodes; arcs = arcs })

pub graph_of_nothing : (text : List ℕ) → told_lines 0 text ≡ [] → graph_of text ≡ Err (NoProblem 1)
unfolding graph_of
graph_of_nothing text e = ap graph_from e

module _ (text : List ℕ) (number : ℕ) (words : List (List ℕ)) (lines : List (ℕ × List (List ℕ))) (begins : told_lines 0 text ≡ (number, words) ∷ lines) where
  pub graph_unsized : (fault : DimacsError) → Err fault ≡ graph_size_of number words → graph_of text ≡ Err fault
  unfolding graph_of
  graph_unsized fault is =
      ap graph_from begins ∙ ap (λ (said : Result GraphSize DimacsError). said >>= (λ size. each_of (arc_of size.nodes) lines >>= counted size)) (sym is)

  pub graph_sized : (size : GraphSize) → Ok size ≡ graph_size_of number words → graph_of text ≡ (each_of (arc_of size.nodes) lines >>= counted size)
  unfolding graph_of
  graph_sized size is =
      ap graph_from begins ∙ ap (λ (said : Result GraphSize DimacsError). said >>= (λ size. each_of (arc_of size.nodes) lines >>= counted size)) (sym is)

  pub graph_bad_arc : (size : GraphSize) (fault : DimacsError) → Ok size ≡ graph_size_of number words → (fault ≡ Memory no_memory) ⊎ (each_of (arc_of size.nodes) lines ≡ Err fault) → (fault ≡ Memory no_memory) ⊎ (graph_of text ≡ Err fault)
  graph_bad_arc size fault is (inl memory) = inl memory
  graph_bad_arc size fault is (inr bad) = inr (graph_sized size is ∙ ap (λ (said : Result (List Arc) DimacsError). said >>= counted size) bad)

  pub graph_miscounted : (size : GraphSize) (arcs : List Arc) → Ok size ≡ graph_size_of number words → each_of (arc_of size.nodes) lines ≡ Ok arcs → length arcs ≢ size.arcs → graph_of text ≡ Err (Count 1)
  graph_miscounted size arcs is all apart =
      let test : (length arcs == size.arcs) ≡ false = grind (arith, apart) in
      graph_sized size is ∙ (ap (λ (said : Result (List Arc) DimacsError). said >>= counted size) all ∙ ap (λ b. where_holds b (Count 1) (record { nodes = size.nodes; arcs = arcs })) test)

  pub graph_whole : (size : GraphSize) (arcs : List Arc) → Ok size ≡ graph_size_of number words → each_of (arc_of size.nodes) lines ≡ Ok arcs → length arcs ≡ size.arcs → graph_of text ≡ Ok (record { nodes = size.nodes; arcs = arcs })
  graph_whole size arcs is all same =
      let test : (length arcs == size.arcs) ≡ true = grind (arith, same) in
      graph_sized size is ∙ (ap (λ (said : Result (List Arc) DimacsError). said >>= counted size) all ∙ ap (λ b. where_holds b (Count 1) (record { nodes = size.nodes; arcs = arcs })) test)

-- places, if their number is the declared one
abbrev pub all_placed : ℕ → ℕ → List Node → Result (List Node) DimacsError
all_placed nodes count places = where_holds ((count == nodes) && (length places == count)) (Count 2) places

pub places_of_nothing : (nodes : ℕ) (text : List ℕ) → told_lines 0 text ≡ [] → places_of nodes text ≡ Err (NoProblem 2)
unfolding places_of
places_of_nothing nodes text e = ap (places_from nodes) e

module _ (nodes : ℕ) (text : List ℕ) (number : ℕ) (words : List (List ℕ)) (lines : List (ℕ × List (List ℕ))) (begins : told_lines 0 text ≡ (number, words) ∷ lines) where
  pub places_unsized : (fault : DimacsError) → Err fault ≡ place_count_of number words → places_of nodes text ≡ Err fault
  unfolding places_of
  places_unsized fault is =
      ap (places_from nodes) begins ∙ ap (λ (said : Result ℕ DimacsError). said >>= (λ count. each_of (place_of count) lines >>= all_placed nodes count)) (sym is)

  pub places_sized : (count : ℕ) → Ok count ≡ place_count_of number words → places_of nodes text ≡ (each_of (place_of count) lines >>= all_placed nodes count)
  unfolding places_of
  places_sized count is =
      ap (places_from nodes) begins ∙ ap (λ (said : Result ℕ DimacsError). said >>= (λ count. each_of (place_of count) lines >>= all_placed nodes count)) (sym is)

  pub places_bad : (count : ℕ) (fault : DimacsError) → Ok count ≡ place_count_of number words → (fault ≡ Memory no_memory) ⊎ (each_of (place_of count) lines ≡ Err fault) → (fault ≡ Memory no_memory) ⊎ (places_of nodes text ≡ Err fault)
  places_bad count fault is (inl memory) = inl memory
  places_bad count fault is (inr bad) = inr (places_sized count is ∙ ap (λ (said : Result (List Node) DimacsError). said >>= all_placed nodes count) bad)

  tested : (count : ℕ) (places : List Node) (b : Bool) → ((count == nodes) && (length places == count)) ≡ b → Ok count ≡ place_count_of number words → each_of (place_of count) lines ≡ Ok places → places_of nodes text ≡ where_holds b (Count 2) places
  tested count places b test is all =
      places_sized count is ∙ (ap (λ (said : Result (List Node) DimacsError). said >>= all_placed nodes count) all ∙ ap (λ b. where_holds b (Count 2) places) test)

  pub places_other : (count : ℕ) (places : List Node) → Ok count ≡ place_count_of number words → each_of (place_of count) lines ≡ Ok places → count ≢ nodes → places_of nodes text ≡ Err (Count 2)
  places_other count places is all apart =
      let test : (count == nodes) ≡ false = grind (arith, apart) in
      tested count places false (ap (λ b. b && (length places == count)) test) is all

  pub places_miscounted : (count : ℕ) (places : List Node) → Ok count ≡ place_count_of number words → each_of (place_of count) lines ≡ Ok places → count ≡ nodes → length places ≢ count → places_of nodes text ≡ Err (Count 2)
  places_miscounted count places is all same apart =
      let first : (count == nodes) ≡ true = grind (arith, same) in
      let test : (length places == count) ≡ false = grind (arith, apart) in
      tested count places false (ap (λ b. b && (length places == count)) first ∙ test) is all

  pub places_whole : (count : ℕ) (places : List Node) → Ok count ≡ place_count_of number words → each_of (place_of count) lines ≡ Ok places → count ≡ nodes → length places ≡ count → places_of nodes text ≡ Ok places
  places_whole count places is all same long =
      let first : (count == nodes) ≡ true = grind (arith, same) in
      let test : (length places == count) ≡ true = grind (arith, long) in
      tested count places true (ap (λ b. b && (length places == count)) first ∙ test) is all
