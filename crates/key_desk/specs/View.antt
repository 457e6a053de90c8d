-- The contents of a desk as callers see it.
use Rattle.std.specs.Prelude.{ℕ, List, Bool}
use Rattle.lms_tree.specs.Signatures.{KeyOf}
use Rattle.desk_areas.specs.Area.{AreaView}
use Rattle.desk_areas.specs.declared.area.Count.{Count}

-- the areas before the current one, the base of the current one, its key, and the states of its slots
pub record View : Type 0 where
  pub earlier : List AreaView
  pub base : ℕ
  pub key : KeyOf
  pub counts : List Count
  pub is_open : Bool
