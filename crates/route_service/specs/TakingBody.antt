-- The octets that reading this many octets takes from a source, and the contents of the buffer afterwards.
use Rattle.std.specs.Prelude.{◌≡◌, ℕ, ◌<◌, List, [], length, Option, Result, Ok, Err}
use Rattle.std.specs.Io.KnownBytes.{Consumes, IsAtEnd}
use Rattle.route_service.specs.declared.reading.BodyError.{BodyError}
use Rattle.route_service.specs.declared.reading.BodyError.TheVariants.{Truncated, Source, Memory}

abbrev pub TakesBody : ℕ → Option (List ℕ) → Option (List ℕ) → List ℕ →
    Result (Unit {0}) BodyError → Type 0
TakesBody size left rest body (Ok done) = (length body ≡ size) × Consumes left rest body
TakesBody size left rest body (Err Truncated) = (octets : List ℕ) × (length octets < size) ×
    Consumes left rest octets × IsAtEnd rest
TakesBody size left rest body (Err Source) = (octets : List ℕ) × (length octets < size) ×
    Consumes left rest octets
TakesBody size left rest body (Err (Memory _)) = Consumes left rest []
