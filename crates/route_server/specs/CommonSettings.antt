-- Settings that pass the tests that all methods share.
use Rattle.std.specs.Prelude.{◌≡◌, ◌≤◌}
use Rattle.road_map.specs.declared.parts.Parts.{Parts}
use Rattle.book_model.specs.declared.settings.Settings.{Settings}
use Rattle.book_model.specs.Books.{kind_of}
use Rattle.proof_method.specs.Planning.{book_fault, own_fault}

-- a supported method, and an order and a fan-out in their ranges, so only the method's own tests remain
pub record IsCommon (s : Settings) : Type 0 where
  pub order : s.order ≤ 5
  pub fan : 2 ≤ s.fan
  pub fan_max : s.fan ≤ 32
  pub own : (parts : Parts) → book_fault parts s ≡ own_fault (kind_of s.method) parts s
