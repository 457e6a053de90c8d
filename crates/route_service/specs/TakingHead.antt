-- The octets that reading a frame's length takes from a source.
use Rattle.std.specs.Prelude.{ℕ, ◌<◌, List, [], length, Option, Some, None, Result, Ok, Err}
use Rattle.std.specs.Int.{w32, to_be_bytes}
use Rattle.std.specs.Io.KnownBytes.{Consumes, IsAtEnd}
use Rattle.route_service.specs.declared.reading.HeadError.{HeadError}
use Rattle.route_service.specs.declared.reading.HeadError.TheVariants.{Truncated, Source}

abbrev pub TakesHead : Option (List ℕ) → Option (List ℕ) → Result (Option ℕ) HeadError → Type 0
TakesHead left rest (Ok None) = Consumes left rest [] × IsAtEnd rest
TakesHead left rest (Ok (Some size)) = Consumes left rest (to_be_bytes w32 size)
TakesHead left rest (Err Truncated) = (octets : List ℕ) × (0 < length octets) ×
    (length octets < 4) × Consumes left rest octets × IsAtEnd rest
TakesHead left rest (Err Source) = (octets : List ℕ) × (length octets < 4) ×
    Consumes left rest octets
