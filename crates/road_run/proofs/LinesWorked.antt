-- The lines of accepted replies, over small maps.
use Rattle.std.proofs.Common.{◌≡◌, ℕ, zero, suc, pos, inl, inr, List, [], ◌∷◌, ◌++◌, codes, Contains, false, ◌==◌, refl, sym, ap, subst, ◌∙◌, arith}
use Rattle.std.specs.declared.option.Option.{Option}
use Rattle.std.specs.declared.option.Option.TheVariants.{None, Some}
use Rattle.std.specs.declared.result.Result.TheVariants.{Ok, Err}
use Rattle.octet_text.specs.Want.{no_memory}
use Rattle.std.proofs.lemmas.Bool.Decides.{nat_tests}
use Rattle.std.proofs.lemmas.Fmt.{decimal_digit}
use Rattle.std.specs.List.Sorted.{IsStrictlySortedBy}
use Rattle.std.specs.Ordering.{nat_cmp}
use Rattle.std.specs.declared.cmp.Ordering.TheVariants.{Less}
use Rattle.road_map.proofs.Among.{Contains-none, Contains-here, Contains-there, Contains-cases}
use Rattle.command_files.specs.declared.fault.Fault.TheVariants.{Missing, Library, Sink, Disk, Memory}
use Rattle.command_files.specs.declared.ended.Conclusion.TheVariants.{Done}
use Rattle.road_map.specs.declared.parts.Node.{Node}
use Rattle.road_map.specs.declared.parts.Parts.{Parts}
use Rattle.road_map.specs.Walks.{Hop, Follows, Joins, distance, end_from}
use Rattle.road_map.specs.Routes.{IsShortest}
use Rattle.book_model.specs.declared.items.Query.{Query}
use Rattle.proof_octets.specs.declared.header.Header.{Header}
use Rattle.proof_octets.specs.declared.marks.Mark.{Mark}
use Rattle.proof_octets.specs.declared.query.NearQuery.{NearQuery}
use Rattle.proof_octets.specs.Radius.{AreWithin, IsNear}
use Rattle.route_client.specs.declared.accepted.Checked.{Checked}
use Rattle.route_client.specs.declared.accepted.Checked.TheVariants.{Route, Apart}
use Rattle.route_client.specs.Truth.{HoldsIn}
use Rattle.road_line.specs.VerdictLine.{accepted_line}
use Rattle.road_line.specs.WithinLine.{within_line}
use Rattle.road_run.specs.Accepting.{IsAcceptedLine, IsWithinLine, WritesAccepted}

-- ---- small maps

abbrev node : ℕ → Node
node id = record { id = id; x = pos 0; y = pos 0 }

-- a map with one node, and one with two nodes and no road
abbrev one : Parts
one = record { nodes = node 1 ∷ []; roads = [] }

abbrev two : Parts
two = record { nodes = node 1 ∷ node 2 ∷ []; roads = [] }

-- a map without nodes
abbrev no_map : Parts
no_map = record { nodes = []; roads = [] }

-- ---- an accepted route

abbrev at_home : Query
at_home = record { from = 1; to = 1 }

abbrev across : Query
across = record { from = 1; to = 2 }

home_is_shortest : IsShortest one 1 1 (1 ∷ []) 0
home_is_shortest = record {
  arcs = [];
  known = ((0, omega arith, refl), (0, omega arith, refl));
  visits = refl;
  along = tt;
  ends = refl;
  sums = refl;
  least = λ e joins. omega arith;
}

-- the route from a node to itself
abbrev home : Header → Checked
home header = Route (record { length = 0; route = 1 ∷ []; version = header.version; header = header })

home_text : (header : Header) → accepted_line (home header) ≡ codes "accepted 0: 1\n"
home_text header = rw (decimal_digit 0 (omega arith), decimal_digit 1 (omega arith)) refl

home_line : (header : Header) → IsAcceptedLine one at_home (codes "accepted 0: 1\n")
home_line header = record { accepted = home header; holds = home_is_shortest; line = sym (home_text header) }

-- no walk goes from one node to another without a road
no_walk : (d : ℕ) → Joins two 1 2 d → ⊥
no_walk d joins = at joins.walk.start joins.walk.hops joins.starts joins.follows joins.ends
  where
    at : (start : ℕ) (hops : List Hop) → start ≡ 1 → Follows [] start hops → end_from start hops ≡ 2 → ⊥
    at start [] starts follows ends = omega (arith, starts, ends)
    at start (h ∷ hops) starts follows ends = Contains-none h.road follows.0

apart_line : (version : ℕ) (header : Header) → IsAcceptedLine two across (codes "accepted none\n")
apart_line version header = record { accepted = Apart version header; holds = ((0, omega arith, refl), (1, omega arith, refl), no_walk); line = refl }

-- no line is accepted of a map without nodes, and no text without octets is a line of any
no_line_of_no_map : (q : Query) (text : List ℕ) → IsAcceptedLine no_map q text → ⊥
no_line_of_no_map q text line = of line.accepted line.holds
  where
    of : (accepted : Checked) → HoldsIn no_map q accepted → ⊥
    of (Route x) holds = Contains-none q.from holds.known.0
    of (Apart version header) holds = Contains-none q.from holds.0

no_empty_line : (parts : Parts) (q : Query) → IsAcceptedLine parts q [] → ⊥
no_empty_line parts q line = let e : [] ≡ accepted_line line.accepted = line.line in cc

-- nodes with a road between them are not apart
abbrev joined : Parts
joined = record { nodes = node 1 ∷ node 2 ∷ []; roads = record { a = 1; b = 2; length = 5 } ∷ [] }

a_walk : Joins joined 1 2 5
a_walk = record {
  walk = record { start = 1; hops = record { road = record { a = 1; b = 2; length = 5 }; back = false } ∷ [] };
  known = (0, omega arith, refl);
  starts = refl;
  follows = ((0, omega arith, refl), refl, tt);
  ends = refl;
  sums = refl;
}

joined_are_not_apart : (version : ℕ) (header : Header) → HoldsIn joined across (Apart version header) → ⊥
joined_are_not_apart version header holds = holds.2 5 a_walk

-- ---- the nodes within a radius

-- of two nodes without a road, only the first is within a radius of 9 around it
abbrev near : NearQuery
near = record { from = 1; radius = 9 }

abbrev here : Mark
here = record { id = 1; distance = 0 }

distance_here : distance two 1 1 ≡ Some 0
unfolding distance
distance_here = refl

not_here : (id : ℕ) → (1 == suc (suc id)) ≡ false
not_here id = grind (arith, nat_tests)

nothing_there : (id : ℕ) → distance two 1 (suc (suc id)) ≡ None
unfolding distance
nothing_there id = rw (not_here id) refl

only_here : (id d : ℕ) → distance two 1 id ≡ Some d → (id ≡ 1) × (d ≡ 0)
unfolding distance
only_here zero d e = absurd (cc)
only_here (suc zero) d e = (refl, (cc))
only_here (suc (suc id)) d e = absurd (let f : None ≡ Some d = sym (nothing_there id) ∙ e in cc)

here_is_near : IsNear two near here
here_is_near = record { distance_is = distance_here; within = omega arith }

near_is_here : (m : Mark) → IsNear two near m → here ≡ m
near_is_here m is = let at = only_here m.id m.distance is.distance_is in
    sym (ap (λ (id : ℕ). record { id = id; distance = m.distance }) at.0 ∙ ap (λ (d : ℕ). record { id = 1; distance = d }) at.1)

here_is_within : AreWithin two near (here ∷ [])
unfolding IsStrictlySortedBy
here_is_within = record {
  rising = (tt, tt);
  same = λ m. (
    λ among. elim (Contains-cases here m [] among) [ inl is ↦ subst (IsNear two near) is here_is_near | inr none ↦ absurd (Contains-none m none) ],
    λ is. subst (Contains (here ∷ [])) (near_is_here m is) (Contains-here here []),
  );
}

here_text : within_line (here ∷ []) ≡ codes "within 1: 1\n"
here_text = rw (decimal_digit 1 (omega arith)) refl

here_line : IsWithinLine two near (codes "within 1: 1\n")
here_line = record { nodes = here ∷ []; within = here_is_within; line = sym here_text }

-- there is no other line of them
rises_by_itself : (a b : ℕ) → a ≡ 1 → b ≡ 1 → nat_cmp a b ≡ Less → ⊥
rises_by_itself a b first second less =
    let e : nat_cmp 1 1 ≡ Less = subst (λ (n : ℕ). nat_cmp 1 n ≡ Less) second (subst (λ (n : ℕ). nat_cmp n b ≡ Less) first less) in cc

only_nodes : (nodes : List Mark) → AreWithin two near nodes → nodes ≡ here ∷ []
unfolding IsStrictlySortedBy
only_nodes [] are = absurd (Contains-none here ((are.same here).1 here_is_near))
only_nodes (m ∷ []) are = ap (λ (n : Mark). n ∷ []) (sym (near_is_here m ((are.same m).0 (Contains-here m []))))
only_nodes (m ∷ n ∷ rest) are =
    let first = near_is_here m ((are.same m).0 (Contains-here m (n ∷ rest))) in
    let second = near_is_here n ((are.same n).0 (Contains-there m n (n ∷ rest) (Contains-here n rest))) in
    absurd (rises_by_itself m.id n.id (sym (ap (λ (x : Mark). x.id) first)) (sym (ap (λ (x : Mark). x.id) second)) are.rising.0.0)

only_line : (text : List ℕ) → IsWithinLine two near text → text ≡ codes "within 1: 1\n"
only_line text line = line.line ∙ ap within_line (only_nodes line.nodes line.within) ∙ here_text

-- so the line without the node is none, nor is one with the other node too
no_node_is_wrong : IsWithinLine two near (codes "within 0:\n") → ⊥
no_node_is_wrong line = let e = only_line (codes "within 0:\n") line in cc

both_nodes_are_wrong : IsWithinLine two near (codes "within 2: 1 2\n") → ⊥
both_nodes_are_wrong line = let e = only_line (codes "within 2: 1 2\n") line in cc

-- of a map without nodes no node is within any radius
none_are_within : (q : NearQuery) → AreWithin no_map q []
unfolding IsStrictlySortedBy distance
none_are_within q = record { rising = tt; same = λ m. (λ among. absurd (Contains-none m among), λ is. absurd (let e : None ≡ Some m.distance = is.distance_is in cc)) }

none_line : (q : NearQuery) → IsWithinLine no_map q (codes "within 0:\n")
none_line q = record { nodes = []; within = none_are_within q; line = sym none_text }
  where
    none_text : within_line [] ≡ codes "within 0:\n"
    none_text = rw (decimal_digit 0 (omega arith)) refl

-- ---- written lines

module _ (IsLine : List ℕ → Type 0) (text : List ℕ) where
  -- the line is written after what was there, or memory ran out, or an outside object failed
  line_was_written : (before : List ℕ) → IsLine text → WritesAccepted IsLine (Some before) (Some (before ++ text)) (Ok Done)
  line_was_written before is = (text, is, refl)

  memory_ran_out : (old new : Option (List ℕ)) → WritesAccepted IsLine old new (Err (Memory no_memory))
  memory_ran_out old new = tt

  object_failed : (old new : Option (List ℕ)) → WritesAccepted IsLine old new (Err Library) × WritesAccepted IsLine old new (Err Sink) × WritesAccepted IsLine old new (Err Disk)
  object_failed old new = (tt, tt, tt)

  -- another text is not the line, and no other fault excuses that none was written
  other_was_written : (IsLine text → ⊥) → WritesAccepted IsLine (Some []) (Some text) (Ok Done) → ⊥
  other_was_written other (t, is, e) = other (subst IsLine (sym e) is)

  missing_excuses_nothing : (old new : Option (List ℕ)) → WritesAccepted IsLine old new (Err Missing) → ⊥
  missing_excuses_nothing old new h = h
