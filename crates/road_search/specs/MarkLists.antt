-- Marks in a list by number.
use Rattle.std.specs.Prelude.{List, Option}
use Rattle.road_search.specs.declared.marks.Mark.{Mark}

-- the mark of each number, if there is one
pub record MarkList : Type 0 where
  pub items : List (Option Mark)
