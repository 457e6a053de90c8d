-- The result of serving: a run of the machine over the frames that were read; the replies are on the sink.
use Rattle.std.specs.Prelude.{◌≡◌, ◌⊎◌, ℕ, ◌<◌, ◌≤◌, List, length, Option, Result, Ok, Err}
use Rattle.std.specs.List.{AllByRecursion}
use Rattle.std.specs.Io.KnownBytes.{Appends, Consumes, IsAtEnd}
use Rattle.road_io.specs.Contents.{AppendsFront}
use Rattle.route_service.specs.Frames.{frame_of, framed, IsPart, IsTooLong, IsHead}
use Rattle.route_service.specs.Machine.{State, Step, Run}
use Rattle.route_service.specs.Isolation.{IsIsolated}
use Rattle.route_service.specs.declared.serving.ServeError.{ServeError}
use Rattle.route_service.specs.declared.serving.ServeError.TheVariants.{FrameTooLong, TruncatedFrame, TooManyFrames, Source, Sink, Memory}

-- the octets taken after the answered frames if memory ran out: the length of a frame, if memory for its body was
-- refused, or a whole frame, if memory for its reply was refused
abbrev pub IsUnanswered : ℕ → List ℕ → Type 0
IsUnanswered most octets =
    IsHead most octets ⊎ ((frame : List ℕ) × (length frame ≤ most) × (octets ≡ frame_of frame))

module _ (hash sha : List ℕ → List ℕ) where
  -- this many frames were taken, and the replies of a run over them are written
  pub record Served (first last : State) (most count : ℕ)
      (left rest old new : Option (List ℕ)) : Type 0 where
    pub frames : List (List ℕ)
    pub replies : List (List ℕ)
    pub took : Consumes left rest (framed frames)
    pub wrote : Appends old new (framed replies)
    pub run : Run hash sha first frames replies last
    pub isolated : IsIsolated hash sha first frames replies
    pub short : AllByRecursion (λ frame. length frame ≤ most) frames
    pub number : length frames ≡ count

  -- then some more octets were taken
  pub record Then (first last : State) (most count : ℕ) (left rest old new : Option (List ℕ))
      (Is : List ℕ → Type 0) : Type 0 where
    pub between : Option (List ℕ)
    pub served : Served first last most count left between old new
    pub octets : List ℕ
    pub took : Consumes between rest octets
    pub is : Is octets

  -- then one more frame was taken, and a prefix of its reply is written
  pub record Cut (first last : State) (most count : ℕ)
      (left rest old new : Option (List ℕ)) : Type 0 where
    pub state : State
    pub between : Option (List ℕ)
    pub written : Option (List ℕ)
    pub served : Served first state most count left between old written
    pub frame : List ℕ
    pub reply : List ℕ
    pub short : length frame ≤ most
    pub took : Consumes between rest (frame_of frame)
    pub step : Step hash sha state frame reply last
    pub front : AppendsFront written new (frame_of reply)

  -- The result of serving, by how it ended: at most this many frames were taken, each of at most this many octets,
  -- and nothing was read ahead of the replies.
  abbrev pub Serves : State → State → ℕ → ℕ → Option (List ℕ) → Option (List ℕ) → Option (List ℕ) →
      Option (List ℕ) → Result (Unit {0}) ServeError → Type 0
  Serves first last most limit left rest old new (Ok done) = (count : ℕ) × (count ≤ limit) ×
      Served first last most count left rest old new × IsAtEnd rest
  Serves first last most limit left rest old new (Err FrameTooLong) = (count : ℕ) ×
      (count < limit) × Then first last most count left rest old new (IsTooLong most)
  Serves first last most limit left rest old new (Err TruncatedFrame) =
      (count : ℕ) × (count < limit) ×
      Then first last most count left rest old new
      (λ octets. (0 < length octets) × IsPart most octets) × IsAtEnd rest
  Serves first last most limit left rest old new
      (Err TooManyFrames) = Then first last most limit left rest old new
      (λ octets. length octets ≡ 1)
  Serves first last most limit left rest old new (Err Source) = (count : ℕ) × (count ≤ limit) ×
      Then first last most count left rest old new (IsPart most)
  Serves first last most limit left rest old new (Err Sink) = (count : ℕ) × (count < limit) ×
      Cut first last most count left rest old new
  Serves first last most limit left rest old new (Err (Memory _)) =
      (count : ℕ) × (count < limit) ×
      Then first last most count left rest old new (IsUnanswered most)
