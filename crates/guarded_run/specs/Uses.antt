-- How a request uses the owner's desk.
use Rattle.std.specs.Prelude.{Bool, true, false}
use Rattle.std.specs.declared.option.Option.{Option}
use Rattle.std.specs.declared.option.Option.TheVariants.{None, Some}
use Rattle.road_command.specs.Requests.{Request, Key, Succeed, Links, Desk, Publish, Audit, AuditReach, Reduce}
use Rattle.desk_sight.specs.declared.looking.Use.{Use}
use Rattle.desk_sight.specs.declared.looking.Use.TheVariants as keys

-- how its keys are used, if they are used
abbrev pub keys_used : Option Request → Option Use
keys_used (Some (Key secret kind)) = Some keys.Key
keys_used (Some (Publish roads settings)) = Some keys.Publish
keys_used (Some (Succeed secret kind)) = Some keys.Succeed
keys_used (Some Links) = Some keys.Links
keys_used asked = None

-- whether its file is written
abbrev pub writes_desk : Option Request → Bool
writes_desk (Some (Key secret kind)) = true
writes_desk (Some (Publish roads settings)) = true
writes_desk (Some (Succeed secret kind)) = true
writes_desk asked = false

-- whether its file is used
abbrev pub uses_desk : Option Request → Bool
uses_desk (Some (Key secret kind)) = true
uses_desk (Some (Publish roads settings)) = true
uses_desk (Some (Succeed secret kind)) = true
uses_desk (Some Links) = true
uses_desk (Some Desk) = true
uses_desk (Some (Audit key publication reply query chain)) = true
uses_desk (Some (AuditReach key publication reply query chain)) = true
uses_desk (Some (Reduce key text signature)) = true
uses_desk asked = false

-- whether its keys sign, or make signatures again
abbrev pub does_sign : Option Use → Bool
does_sign (Some keys.Publish) = true
does_sign (Some keys.Succeed) = true
does_sign (Some keys.Links) = true
does_sign what = false
