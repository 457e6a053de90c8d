-- `route`, `root` and `dimacs` each have one result over their files.
use Rattle.std.proofs.Common.{◌≡◌, ℕ, List, refl, ap}
use Rattle.std.specs.declared.result.Result.{Result}
use Rattle.std.specs.declared.result.Result.TheVariants.{Ok, Err}
use Rattle.road_io.specs.Contents.{Folder}
use Rattle.road_map.specs.Walks.{Knows}
use Rattle.road_map.specs.Laws.{ArcLaws}
use Rattle.road_map.specs.declared.parts.Parts.{Parts}
use Rattle.command_files.specs.Reading.{parts_at}
use Rattle.command_files.specs.TwoEnds.{IsFirstUnknown, AreApart}
use Rattle.command_files.specs.declared.fault.Fault.{Fault}
use Rattle.command_files.specs.declared.fault.Fault.TheVariants.{Map, UnknownNode, NoRoute}
use Rattle.command_files.specs.declared.ended.Conclusion.{Conclusion}
use Rattle.command_files.specs.declared.ended.Conclusion.TheVariants.{Done}
use Rattle.command_files.proofs.Ends.{both_known, one_unknown, shortest_joins}
use Rattle.command_files.proofs.OneMap.{Faults, not_map, one_map_fault}
use Rattle.command_files.proofs.OneEnd.{HasOneEnd, one_reading}
use Rattle.map_commands.specs.RouteLine.{IsRouteLine, EndsRoute, ends_route}
use Rattle.map_commands.specs.RootLine.{EndsRoot, ends_root}
use Rattle.map_commands.specs.DimacsFiles.{EndsDimacs, dimacs_at, ends_dimacs}

-- a shortest route joins two known ends
knows_start : (parts : Parts) (from to : ℕ) (text : List ℕ) → IsRouteLine parts from to text → Knows parts from
knows_start parts from to text h = h.shortest.known.0

knows_end : (parts : Parts) (from to : ℕ) (text : List ℕ) → IsRouteLine parts from to text → Knows parts to
knows_end parts from to text h = h.shortest.known.1

not_apart : (parts : Parts) → ((u : ℕ) → ArcLaws parts u) → (from to : ℕ) (text : List ℕ) → AreApart parts from to → IsRouteLine parts from to text → ⊥
not_apart parts laws from to text a h = a.apart h.length (shortest_joins parts laws from to h.length h.route h.shortest)

-- over parts, `route` has one end
one_route_end : Faults → ((parts : Parts) (u : ℕ) → ArcLaws parts u) → (from to : ℕ) (parts : Parts) (o p : Result Conclusion Fault) (s t : List ℕ)
    → EndsRoute from to parts o s → EndsRoute from to parts p t → o ≡ p
one_route_end faults arcs from to parts (Ok Done) (Ok Done) s t h k = refl
one_route_end faults arcs from to parts (Ok Done) (Err (Map f)) s t h k = absurd (not_map faults parts f h.0 k.0)
one_route_end faults arcs from to parts (Ok Done) (Err (UnknownNode b)) s t h k = absurd (both_known parts from to b (knows_start parts from to s h.1) (knows_end parts from to s h.1) k.1)
one_route_end faults arcs from to parts (Ok Done) (Err NoRoute) s t h k = absurd (not_apart parts (arcs parts) from to s k.1 h.1)
one_route_end faults arcs from to parts (Ok Done) p s t h k = absurd k
one_route_end faults arcs from to parts (Err (Map e)) (Ok Done) s t h k = absurd (not_map faults parts e k.0 h.0)
one_route_end faults arcs from to parts (Err (Map e)) (Err (Map f)) s t h k = ap (λ x. Err (Map x)) (one_map_fault faults parts e f h.0 k.0)
one_route_end faults arcs from to parts (Err (Map e)) (Err (UnknownNode b)) s t h k = absurd (not_map faults parts e k.0 h.0)
one_route_end faults arcs from to parts (Err (Map e)) (Err NoRoute) s t h k = absurd (not_map faults parts e k.0 h.0)
one_route_end faults arcs from to parts (Err (Map e)) p s t h k = absurd k
one_route_end faults arcs from to parts (Err (UnknownNode a)) (Ok Done) s t h k = absurd (both_known parts from to a (knows_start parts from to t k.1) (knows_end parts from to t k.1) h.1)
one_route_end faults arcs from to parts (Err (UnknownNode a)) (Err (Map f)) s t h k = absurd (not_map faults parts f h.0 k.0)
one_route_end faults arcs from to parts (Err (UnknownNode a)) (Err (UnknownNode b)) s t h k = ap (λ x. Err (UnknownNode x)) (one_unknown parts from to a b h.1 k.1)
one_route_end faults arcs from to parts (Err (UnknownNode a)) (Err NoRoute) s t h k = absurd (both_known parts from to a k.1.start k.1.end h.1)
one_route_end faults arcs from to parts (Err (UnknownNode a)) p s t h k = absurd k
one_route_end faults arcs from to parts (Err NoRoute) (Ok Done) s t h k = absurd (not_apart parts (arcs parts) from to t h.1 k.1)
one_route_end faults arcs from to parts (Err NoRoute) (Err (Map f)) s t h k = absurd (not_map faults parts f h.0 k.0)
one_route_end faults arcs from to parts (Err NoRoute) (Err (UnknownNode b)) s t h k = absurd (both_known parts from to b h.1.start h.1.end k.1)
one_route_end faults arcs from to parts (Err NoRoute) (Err NoRoute) s t h k = refl
one_route_end faults arcs from to parts (Err NoRoute) p s t h k = absurd k
one_route_end faults arcs from to parts o p s t h k = absurd h

-- over parts, `root` has one end
one_root_end : Faults → (fan : ℕ) (parts : Parts) (o p : Result Conclusion Fault) (s t : List ℕ) → EndsRoot fan parts o s → EndsRoot fan parts p t → o ≡ p
one_root_end faults fan parts (Ok Done) (Ok Done) s t h k = refl
one_root_end faults fan parts (Ok Done) (Err (Map f)) s t h k = absurd (not_map faults parts f h.0 k.0)
one_root_end faults fan parts (Ok Done) p s t h k = absurd k
one_root_end faults fan parts (Err (Map e)) (Ok Done) s t h k = absurd (not_map faults parts e k.0 h.0)
one_root_end faults fan parts (Err (Map e)) (Err (Map f)) s t h k = ap (λ x. Err (Map x)) (one_map_fault faults parts e f h.0 k.0)
one_root_end faults fan parts (Err (Map e)) p s t h k = absurd k
one_root_end faults fan parts o p s t h k = absurd h

-- over parts, `dimacs` has one end
one_dimacs_end : (parts : Parts) (o p : Result Conclusion Fault) (s t : List ℕ) → EndsDimacs parts o s → EndsDimacs parts p t → o ≡ p
one_dimacs_end parts (Ok Done) (Ok Done) s t h k = refl
one_dimacs_end parts (Ok Done) p s t h k = absurd k
one_dimacs_end parts o p s t h k = absurd h

-- and so over their files
pub only_route : Faults → ((parts : Parts) (u : ℕ) → ArcLaws parts u) → (roads : List ℕ) (from to : ℕ) (folder : Folder) → HasOneEnd (ends_route roads from to folder)
only_route faults arcs roads from to folder = one_reading (parts_at folder roads) (EndsRoute from to) (λ parts. one_route_end faults arcs from to parts)

pub only_root : Faults → (roads : List ℕ) (fan : ℕ) (folder : Folder) → HasOneEnd (ends_root roads fan folder)
only_root faults roads fan folder = one_reading (parts_at folder roads) (EndsRoot fan) (λ parts. one_root_end faults fan parts)

pub only_dimacs : (graph places : List ℕ) (folder : Folder) → HasOneEnd (ends_dimacs graph places folder)
only_dimacs graph places folder = one_reading (dimacs_at folder graph places) EndsDimacs one_dimacs_end
