-- The octets that reading the next frame takes from a source, and the contents of the buffer afterwards.
use Rattle.std.specs.Prelude.{ℕ, ◌<◌, ◌≤◌, Bool, true, false, List, [], length, Option, Result, Ok, Err}
use Rattle.std.specs.Io.KnownBytes.{Consumes, IsAtEnd}
use Rattle.route_service.specs.Frames.{frame_of, IsPart, IsTooLong, IsHead}
use Rattle.route_service.specs.declared.reading.FrameError.{FrameError}
use Rattle.route_service.specs.declared.reading.FrameError.TheVariants.{TooLong, Truncated, Source, Memory}

abbrev pub TakesFrame : ℕ → Option (List ℕ) → Option (List ℕ) → List ℕ → Result Bool FrameError →
    Type 0
TakesFrame most left rest body (Ok false) = Consumes left rest [] × IsAtEnd rest
TakesFrame most left rest body (Ok true) = (length body ≤ most) × Consumes left rest (frame_of body)
TakesFrame most left rest body (Err TooLong) = (octets : List ℕ) × IsTooLong most octets ×
    Consumes left rest octets
TakesFrame most left rest body (Err Truncated) = (octets : List ℕ) × (0 < length octets) ×
    IsPart most octets × Consumes left rest octets × IsAtEnd rest
TakesFrame most left rest body (Err Source) = (octets : List ℕ) × IsPart most octets ×
    Consumes left rest octets
TakesFrame most left rest body (Err (Memory _)) = (octets : List ℕ) × IsHead most octets ×
    Consumes left rest octets
