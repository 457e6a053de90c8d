-- Marks in pages of 64, by number.
use Rattle.std.specs.Prelude.{ℕ, ◌/◌, ◌%◌, Option, None, Some, List, slice_get}
use Rattle.road_search.specs.declared.marks.Mark.{Mark}
use Rattle.road_search.specs.Marking.{marked}
use Rattle.road_search.specs.MarkLists.{MarkList}

-- pages of marks as contracts see them
pub record PageList : Type 0 where
  pub pages : List MarkList

-- the mark at an index of a page, if the page exists
abbrev pub on_page : Option MarkList → ℕ → Option Mark
on_page None place = None
on_page (Some page) place = marked page.items place

-- the mark of a number
abbrev pub paged : List MarkList → ℕ → Option Mark
paged pages number = on_page (slice_get pages (number / 64)) (number % 64)
