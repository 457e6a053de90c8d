use Rattle.std.proofs.Common.{◌≡◌, map, drop}
use Rattle.std.specs.List.{list_any}
use Rattle.road_map.specs.declared.arc.Arc.{Arc}
use Rattle.method_books.proofs.GridLaws.{elsewhere}
use Rattle.method_books.proofs.grid.is_border_at.Given as goal

-- the meaning of the arcs that are left
abbrev pub invariant-loop-arc : goal.invariant-loop-arc
invariant-loop-arc l = list_any (elsewhere l.map.parts.nodes l.grid l.cell) (map (λ (a : Arc). a.to) l.arc-items) ≡ list_any (elsewhere l.map.parts.nodes l.grid l.cell) (map (λ (a : Arc). a.to) (drop l.arc-index l.arc-items))
