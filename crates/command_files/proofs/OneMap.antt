-- Parts make a map, or there is one first reason why they do not.
use Rattle.std.proofs.Common.{◌≡◌}
use Rattle.road_map.specs.declared.parts.Parts.{Parts}
use Rattle.road_map.specs.declared.error.MapError.{MapError}
use Rattle.road_map.specs.Maps.{IsMap}
use Rattle.road_map.specs.Laws.{FaultLaws}
use Rattle.command_files.specs.Reading.{IsMapFault}

-- the laws about the faults of all parts
abbrev pub Faults : Type 0
Faults = (parts : Parts) → FaultLaws parts

pub not_map : Faults → (parts : Parts) (fault : MapError) → IsMap parts → IsMapFault parts fault → ⊥
not_map laws parts fault is h = h.1 ((laws parts).none is fault h.0)

pub one_map_fault : Faults → (parts : Parts) (e f : MapError) → IsMapFault parts e → IsMapFault parts f → e ≡ f
one_map_fault laws parts e f h k = (laws parts).one e f h.0 k.0 h.1 k.1
