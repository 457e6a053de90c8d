-- Why a map has no book under some settings.
use Rattle.std.specs.Prelude.{Option, None, Some}
use Rattle.road_map.specs.declared.parts.Parts.{Parts}
use Rattle.book_model.specs.declared.settings.Settings.{Settings}
use Rattle.book_model.specs.declared.settings.PlanError.{PlanError}
use Rattle.book_model.specs.declared.settings.PlanError.TheVariants as plan
use Rattle.book_model.specs.Books.{Kind, kind_of, plan_fault, method_fault}

-- The first reason why parts and settings have no book: the method, the order, the fan-out, the method's
-- parameters, or the size of the map.
abbrev pub book_fault : Parts → Settings → Option PlanError
book_fault parts s = plan_fault (kind_of s.method) parts s

-- the method's own reason, or that the method does not exist
abbrev pub own_fault : Option Kind → Parts → Settings → Option PlanError
own_fault None parts s = Some (plan.Settings 0)
own_fault (Some kind) parts s = method_fault kind parts s
