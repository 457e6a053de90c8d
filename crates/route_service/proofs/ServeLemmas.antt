-- One more frame.
use Rattle.std.proofs.Common.{refl, sym, ap, ◌∙◌, subst, ◌≡◌, inl, inr, ℕ, ◌+◌, ◌≤◌, ◌<◌, List, [], ◌∷◌, ◌++◌, length, append-nil, length-append, Option, Some, None, Err, arith}
use Rattle.std.proofs.lemmas.Grind.{flat_map-append}
use Rattle.std.specs.List.{AllByRecursion}
use Rattle.std.specs.Io.KnownBytes.{Appends, Consumes}
use Rattle.road_io.specs.Given.{Gave}
use Rattle.road_io.proofs.ReadLemmas.{Consumes-++, gave_more}
use Rattle.road_io.proofs.ToldLemmas.{Appends-++}
use Rattle.route_service.specs.Frames.{frame_of, framed, IsPart, IsTooLong}
use Rattle.route_service.specs.Taking.{TakesFrame}
use Rattle.route_service.specs.declared.reading.FrameError.{FrameError}
use Rattle.route_service.specs.declared.reading.FrameError.TheVariants.{TooLong, Truncated, Source, Memory}
use Rattle.route_service.proofs.FrameLemmas.{Consumes_alone, Consumes_before}
use Rattle.route_service.specs.Machine.{State, Step, Run}
use Rattle.route_service.proofs.Isolated.{isolated}
use Rattle.road_io.specs.Contents.{AppendsFront}
use Rattle.route_service.specs.Serving.{IsUnanswered, Served, Then, Serves}
use Rattle.route_service.specs.declared.serving.ServeError.{ServeError}
use Rattle.route_service.specs.declared.serving.ServeError.TheVariants as Unserved
use Rattle.octet_text.specs.Want.{no_memory}

pub framed-more : (frames : List (List ℕ)) (frame : List ℕ) → framed frames ++ frame_of frame ≡ framed (frames ++ frame ∷ [])
framed-more frames frame = sym (flat_map-append frame_of frames (frame ∷ []) ∙ ap (λ t. framed frames ++ t) (append-nil (frame_of frame)))

pub short-more : (P : List ℕ → Type 0) (frames : List (List ℕ)) (frame : List ℕ) → AllByRecursion P frames → P frame → AllByRecursion P (frames ++ frame ∷ [])
short-more P [] frame all p = (p, all)
short-more P (f ∷ frames) frame all p = (all.0, short-more P frames frame all.1 p)

pub Appends-none : (a : Option (List ℕ)) → Appends a a []
Appends-none None = tt
Appends-none (Some xs) = sym (append-nil xs)

-- first some octets were given, and then others
Gave-++ : (a b c : List ℕ) (P Q R : List ℕ → Type 0) → ((xs ys : List ℕ) → P xs → Q ys → R (xs ++ ys)) → Gave a b P → Gave b c Q → Gave a c R
Gave-++ a b c P Q R both s t = record { octets = s.octets ++ t.octets; gave = gave_more a b c s.octets t.octets s.gave t.gave; is = both s.octets t.octets s.is t.is }

-- why serving ends if a frame is not read whole
abbrev refused : FrameError → ServeError
refused TooLong = Unserved.FrameTooLong
refused Truncated = Unserved.TruncatedFrame
refused Source = Unserved.Source
refused (Memory none) = Unserved.Memory none

module _ (hash sha : List ℕ → List ℕ) where
  pub run-more : (first mid last : State) (frames replies : List (List ℕ)) (frame reply : List ℕ) → Run hash sha first frames replies mid → Step hash sha mid frame reply last →
      Run hash sha first (frames ++ frame ∷ []) (replies ++ reply ∷ []) last
  run-more first mid last [] [] frame reply run step = (last, subst (λ state. Step hash sha state frame reply last) run step, refl)
  run-more first mid last [] (r ∷ replies) frame reply run step = absurd run
  run-more first mid last (f ∷ frames) [] frame reply run step = absurd run
  run-more first mid last (f ∷ frames) (r ∷ replies) frame reply run step = (run.0, run.1, run-more run.0 mid last frames replies frame reply run.2 step)

  pub served-more : (first mid last : State) (most count : ℕ) (left between rest old written new : Option (List ℕ)) (frame reply : List ℕ) →
      Served hash sha first mid most count left between old written → Consumes between rest (frame_of frame) → length frame ≤ most →
      Step hash sha mid frame reply last → Appends written new (frame_of reply) →
      Served hash sha first last most (count + 1) left rest old new
  served-more first mid last most count left between rest old written new frame reply served took short step wrote =
      let run = run-more first mid last served.frames served.replies frame reply served.run step in
      record {
        frames = served.frames ++ frame ∷ [];
        replies = served.replies ++ reply ∷ [];
        took = subst (Consumes left rest) (framed-more served.frames frame) (Consumes-++ left between rest _ _ served.took took);
        wrote = subst (Appends old new) (framed-more served.replies reply) (Appends-++ old written new _ _ served.wrote wrote);
        run = run;
        isolated = isolated hash sha first last (served.frames ++ frame ∷ []) (served.replies ++ reply ∷ []) run;
        short = short-more _ served.frames frame served.short short;
        number = rw (length-append, served.number) refl;
      }

  -- ---- the octets that were given, as those of a source that had no others

  served_before : (first last : State) (most count : ℕ) (octets more : List ℕ) (old new : Option (List ℕ)) →
      Served hash sha first last most count (Some octets) (Some []) old new → Served hash sha first last most count (Some (octets ++ more)) (Some more) old new
  served_before first last most count octets more old new served = record {
    frames = served.frames;
    replies = served.replies;
    took = Consumes_before octets more _ served.took;
    wrote = served.wrote;
    run = served.run;
    isolated = served.isolated;
    short = served.short;
    number = served.number;
  }

  -- one more frame
  pub given_more : (first mid last : State) (most count : ℕ) (a b c : List ℕ) (old written new : Option (List ℕ)) (frame reply : List ℕ) →
      Gave a b (λ octets. Served hash sha first mid most count (Some octets) (Some []) old written) →
      Gave b c (λ octets. (length frame ≤ most) × Consumes (Some octets) (Some []) (frame_of frame)) →
      Step hash sha mid frame reply last → Appends written new (frame_of reply) →
      Gave a c (λ octets. Served hash sha first last most (count + 1) (Some octets) (Some []) old new)
  given_more first mid last most count a b c old written new frame reply s t step wrote =
      Gave-++ a b c _ _ (λ octets. Served hash sha first last most (count + 1) (Some octets) (Some []) old new)
      (λ xs ys served taken.
      served-more first mid last most count (Some (xs ++ ys)) (Some ys) (Some []) old written new frame reply (served_before first mid most count xs ys old written served) taken.1 taken.0 step wrote) s t

  -- and some more octets
  then_more : (first last : State) (most count : ℕ) (octets more text : List ℕ) (old new : Option (List ℕ)) (Is : List ℕ → Type 0) →
      Served hash sha first last most count (Some octets) (Some []) old new → Consumes (Some more) (Some []) text → Is text →
      Then hash sha first last most count (Some (octets ++ more)) (Some []) old new Is
  then_more first last most count octets more text old new Is served took is = record {
    between = Some more;
    served = served_before first last most count octets more old new served;
    octets = text;
    took = took;
    is = is;
  }

  -- for an octet after the greatest number of frames
  pub given_many : (first last : State) (most limit count : ℕ) (a b c : List ℕ) (old new : Option (List ℕ)) (text : List ℕ) → count ≡ limit →
      Gave a b (λ octets. Served hash sha first last most count (Some octets) (Some []) old new) → c ≡ b ++ text → length text ≡ 1 →
      Gave a c (λ octets. Serves hash sha first last most limit (Some octets) (Some []) old new (Err Unserved.TooManyFrames))
  given_many first last most limit count a b c old new text all s gave one =
      Gave-++ a b c _ _ (λ octets. Serves hash sha first last most limit (Some octets) (Some []) old new (Err Unserved.TooManyFrames))
      (λ xs ys served taken. then_more first last most limit xs ys ys old new (λ octets. length octets ≡ 1)
      (subst (λ n. Served hash sha first last most n (Some xs) (Some []) old new) all served) (Consumes_alone ys) taken) s (record { octets = text; gave = gave; is = one })

  -- for a frame that was not read whole
  serves_refused : (first last : State) (most limit count : ℕ) (octets more body : List ℕ) (old new : Option (List ℕ)) (e : FrameError) → count < limit →
      Served hash sha first last most count (Some octets) (Some []) old new → TakesFrame most (Some more) (Some []) body (Err e) →
      Serves hash sha first last most limit (Some (octets ++ more)) (Some []) old new (Err (refused e))
  serves_refused first last most limit count octets more body old new TooLong below served t = (count, below, then_more first last most count octets more t.0 old new (IsTooLong most) served t.2 t.1)
  serves_refused first last most limit count octets more body old new Truncated below served t =
      (count, below, then_more first last most count octets more t.0 old new (λ text. (0 < length text) × IsPart most text) served t.3 (t.1, t.2), t.4)
  serves_refused first last most limit count octets more body old new Source below served t =
      (count, omega (arith, below), then_more first last most count octets more t.0 old new (IsPart most) served t.2 t.1)
  serves_refused first last most limit count octets more body old new (Memory _) below served t =
      (count, below, then_more first last most count octets more t.0 old new (IsUnanswered most) served t.2 (inl t.1))

  pub given_refused : (first last : State) (most limit count : ℕ) (a b c : List ℕ) (old new : Option (List ℕ)) (body : List ℕ) (e : FrameError) → count < limit →
      Gave a b (λ octets. Served hash sha first last most count (Some octets) (Some []) old new) → Gave b c (λ octets. TakesFrame most (Some octets) (Some []) body (Err e)) →
      Gave a c (λ octets. Serves hash sha first last most limit (Some octets) (Some []) old new (Err (refused e)))
  given_refused first last most limit count a b c old new body e below s t =
      Gave-++ a b c _ _ (λ octets. Serves hash sha first last most limit (Some octets) (Some []) old new (Err (refused e)))
      (λ xs ys. serves_refused first last most limit count xs ys body old new e below) s t

  -- for a whole frame without an answer
  pub given_unanswered : (first mid last : State) (most limit count : ℕ) (a b c : List ℕ) (old new : Option (List ℕ)) (frame : List ℕ) → last ≡ mid → count < limit →
      Gave a b (λ octets. Served hash sha first mid most count (Some octets) (Some []) old new) →
      Gave b c (λ octets. (length frame ≤ most) × Consumes (Some octets) (Some []) (frame_of frame)) →
      Gave a c (λ octets. Serves hash sha first last most limit (Some octets) (Some []) old new (Err (Unserved.Memory no_memory)))
  given_unanswered first mid last most limit count a b c old new frame same below s t =
      Gave-++ a b c _ _ (λ octets. Serves hash sha first last most limit (Some octets) (Some []) old new (Err (Unserved.Memory no_memory)))
      (λ xs ys served taken. (
        count,
        below,
        then_more first last most count xs ys (frame_of frame) old new (IsUnanswered most) (subst (λ (state : State). Served hash sha first state most count (Some xs) (Some []) old new) (sym same) served) taken.1 (inr (frame, taken.0, refl)),
      )) s t

  -- for a frame of whose reply a prefix is written
  pub given_cut : (first mid last : State) (most limit count : ℕ) (a b c : List ℕ) (old written new : Option (List ℕ)) (frame reply : List ℕ) → count < limit →
      Gave a b (λ octets. Served hash sha first mid most count (Some octets) (Some []) old written) →
      Gave b c (λ octets. (length frame ≤ most) × Consumes (Some octets) (Some []) (frame_of frame)) →
      Step hash sha mid frame reply last → AppendsFront written new (frame_of reply) →
      Gave a c (λ octets. Serves hash sha first last most limit (Some octets) (Some []) old new (Err Unserved.Sink))
  given_cut first mid last most limit count a b c old written new frame reply below s t step front =
      Gave-++ a b c _ _ (λ octets. Serves hash sha first last most limit (Some octets) (Some []) old new (Err Unserved.Sink))
      (λ xs ys served taken. (
        count,
        below,
        record {
          state = mid;
          between = Some ys;
          written = written;
          served = served_before first mid most count xs ys old written served;
          frame = frame;
          reply = reply;
          short = taken.0;
          took = taken.1;
          step = step;
          front = front;
        },
      )) s t
