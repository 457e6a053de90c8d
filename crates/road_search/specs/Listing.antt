-- Marks of ids from a list, by index, and marks of other ids, by id.
use Rattle.std.specs.Prelude.{◌≡◌, ℕ, Bool, Option, None, Some, IsSome, List, []}
use Rattle.std.specs.Option.{option_map}
use Rattle.road_map.specs.Places.{AreRising, place_in}
use Rattle.road_search.specs.declared.marks.Mark.{Mark}
use Rattle.road_search.specs.Marking.{MarksById, mark_at}
use Rattle.road_search.specs.MarkLists.{MarkList}
use Rattle.road_search.specs.Pages.{paged}
use Rattle.road_search.specs.Nearness.{is_within}

-- the mark of an id that is at an index of the list, or is not in the list
abbrev pub mark_by : (ℕ → Option Mark) → Option Mark → Option ℕ → Option Mark
mark_by by_place other None = other
mark_by by_place other (Some place) = by_place place

abbrev pub listed_by : List ℕ → (ℕ → Option Mark) → MarksById → ℕ → Option Mark
listed_by ids by_place others id = mark_by by_place (mark_at others id) (place_in ids id)

-- ids, marks at the indices of some of them, and marks of other ids
pub record Listing : Type 0 where
  pub ids : List ℕ
  pub marks : List MarkList
  pub others : MarksById

-- the mark of an id
abbrev pub listed : Listing → ℕ → Option Mark
listed l id = listed_by l.ids (paged l.marks) l.others id

-- the list ascends, and no other marked id is in it
pub record IsListing (ids : List ℕ) (others : MarksById) : Type 0 where
  pub rise : AreRising ids
  pub apart : (id : ℕ) → IsSome (mark_at others id) → place_in ids id ≡ None

-- the label at the index of an id is at most this long
abbrev pub is_near_at : List ℕ → (ℕ → Option Mark) → ℕ → ℕ → Bool
is_near_at ids by_place most id = is_within most (option_map (λ l. l.length)
    (option_map (λ m. m.label) (listed_by ids by_place [] id)))
