-- How an input divides into frames, as a function, and how serving the input ends.
use Rattle.std.specs.Prelude.{◌≡◌, ℕ, zero, suc, List, [], ◌∷◌, length, take, drop, nat_lt, if◌then◌else◌, Option, None, Some, Result, Ok, Err}
use Rattle.std.specs.Int.{w32, from_be_bytes}
use Rattle.std.specs.Io.KnownBytes.{Appends}
use Rattle.road_io.specs.Contents.{AppendsFront}
use Rattle.route_service.specs.Frames.{framed}
use Rattle.route_service.specs.Machine.{State, Run}
use Rattle.route_service.specs.Isolation.{IsIsolated}
use Rattle.route_service.specs.declared.serving.ServeError.{ServeError}
use Rattle.route_service.specs.declared.serving.ServeError.TheVariants.{FrameTooLong, TruncatedFrame, TooManyFrames, Source, Sink, Memory}

-- how an input ends: between two frames, at a length that exceeds the greatest one, within a frame, or after the
-- greatest number of frames
pub data Ending : Type 0 where
  Regular : Ending
  TooLong : Ending
  Truncated : Ending
  TooMany : Ending

-- how an input begins: it is empty, or begins with a length that exceeds the greatest one, with less than a frame,
-- or with a frame, given as its body and the rest of the input
pub data Front : Type 0 where
  End : Front
  Long : Front
  Short : Front
  WholeMap : (body rest : List ℕ) → Front

-- by the length, and the octets after it
abbrev pub front_at : ℕ → ℕ → List ℕ → Front
front_at most size octets =
    if nat_lt most size then Long
    else if nat_lt (length octets) size then Short
    else WholeMap (take size octets) (drop size octets)

unfoldable pub front : ℕ → List ℕ → Front
front most [] = End
front most (a ∷ []) = Short
front most (a ∷ b ∷ []) = Short
front most (a ∷ b ∷ c ∷ []) = Short
front most (a ∷ b ∷ c ∷ d ∷ octets) = front_at most (from_be_bytes w32 (a ∷ b ∷ c ∷ d ∷ [])) octets

-- the frames of an input, and how it ends
pub record Input : Type 0 where
  pub frames : List (List ℕ)
  pub ending : Ending

-- the division of an input, from how it begins and how the rest divides into frames
abbrev pub split_at : (List ℕ → Input) → Front → Input
split_at again End = record { frames = []; ending = Regular }
split_at again Long = record { frames = []; ending = TooLong }
split_at again Short = record { frames = []; ending = Truncated }
split_at again (WholeMap body rest) =
    record { frames = body ∷ (again rest).frames; ending = (again rest).ending }

-- the frames, each with at most this many octets and at most n of them
unfoldable pub split : ℕ → ℕ → List ℕ → Input
split most zero [] = record { frames = []; ending = Regular }
split most zero (x ∷ text) = record { frames = []; ending = TooMany }
split most (suc n) text = split_at (split most n) (front most text)

-- this is the rest of a source, if the source states its contents
abbrev pub IsInput : ℕ → ℕ → Option (List ℕ) → Input → Type 0
IsInput most limit None input = Unit {0}
IsInput most limit (Some text) input = input ≡ split most limit text

module _ (hash sha : List ℕ → List ℕ) where
  -- the replies of a run over these frames are written as frames, and each session is isolated
  pub record WritesRun (first : State) (frames : List (List ℕ))
      (old new : Option (List ℕ)) : Type 0 where
    pub last : State
    pub replies : List (List ℕ)
    pub run : Run hash sha first frames replies last
    pub isolated : IsIsolated hash sha first frames replies
    pub wrote : Appends old new (framed replies)

  -- a prefix of the replies of a run over these frames, as frames, is written
  pub record WritesFront (first : State) (frames : List (List ℕ))
      (old new : Option (List ℕ)) : Type 0 where
    pub last : State
    pub replies : List (List ℕ)
    pub run : Run hash sha first frames replies last
    pub isolated : IsIsolated hash sha first frames replies
    pub wrote : AppendsFront old new (framed replies)

  -- How serving an input ends, and what has been written: the replies to all its frames, or to the first of them if
  -- the source or the sink failed or memory ran out.
  abbrev pub ServesInput : State → Input → Option (List ℕ) → Option (List ℕ) →
      Result (Unit {0}) ServeError → Type 0
  ServesInput first input old new (Ok done) = (input.ending ≡ Regular) ×
      WritesRun first input.frames old new
  ServesInput first input old new (Err FrameTooLong) = (input.ending ≡ TooLong) ×
      WritesRun first input.frames old new
  ServesInput first input old new (Err TruncatedFrame) = (input.ending ≡ Truncated) ×
      WritesRun first input.frames old new
  ServesInput first input old new (Err TooManyFrames) = (input.ending ≡ TooMany) ×
      WritesRun first input.frames old new
  ServesInput first input old new (Err Source) = (n : ℕ) ×
      WritesRun first (take n input.frames) old new
  ServesInput first input old new (Err Sink) = (n : ℕ) ×
      WritesFront first (take n input.frames) old new
  ServesInput first input old new (Err (Memory _)) = (n : ℕ) ×
      WritesRun first (take n input.frames) old new
