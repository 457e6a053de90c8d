-- How callers see an area.
use Rattle.std.specs.Prelude.{ℕ, List, [], slice_index_or}
use Rattle.lms_tree.specs.Signatures.{KeyOf}
use Rattle.desk_areas.specs.declared.area.Count.{Count}

-- an area: its key, and the state of each of its slots
pub record AreaView : Type 0 where
  pub key : KeyOf
  pub counts : List Count

-- the value that stands for no area
abbrev pub no_area : AreaView
no_area = record { key = record { kind = 0; i = []; seed = [] }; counts = [] }

-- an area of the list
abbrev pub area_in : List AreaView → ℕ → AreaView
area_in areas number = slice_index_or areas number no_area
