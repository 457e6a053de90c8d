-- An input divides into frames in exactly one way.
use Rattle.std.proofs.Common.{refl, sym, ap, ◌∙◌, subst, ◌≡◌, ℕ, zero, suc, ◌+◌, ◌-◌, ◌≤◌, ◌<◌, ◌^◌, List, [], ◌∷◌, ◌++◌, length, take, take_all, append_assoc, append-nil, length-append, Option, None, Some, Result, Ok, Err, arith}
use Rattle.std.proofs.lemmas.Bool.Decides.{nat_tests}
use Rattle.std.proofs.Math.Seq.{take-append_seam, drop-append_seam}
use Rattle.std.proofs.lemmas.Nat.{from_be_bytes-to_be_bytes_4}
use Rattle.std.specs.List.{AllByRecursion}
use Rattle.std.specs.Io.KnownBytes.{Consumes, IsAtEnd}
use Rattle.road_io.specs.Contents.{AppendsFront}
use Rattle.route_service.specs.Frames.{frame_of, framed, IsPart, IsTooLong}
use Rattle.route_service.proofs.Pieces.{AppendsFront_next}
use Rattle.route_service.specs.Machine.{State, Run}
use Rattle.route_service.specs.Isolation.{IsIsolated}
use Rattle.route_service.proofs.Isolated.{isolated}
use Rattle.route_service.specs.Serving.{Served, Cut, Serves}
use Rattle.route_service.specs.Inputs.{Ending, Input, front, front_at, split, split_at, IsInput, WritesRun, WritesFront, ServesInput}
use Rattle.route_service.specs.Inputs.Ending.{Regular, TooLong, Truncated, TooMany}
use Rattle.route_service.specs.Inputs.Front.{Long, Short, WholeMap}
use Rattle.route_service.specs.declared.serving.ServeError.{ServeError}
use Rattle.route_service.specs.declared.serving.ServeError.TheVariants.{FrameTooLong, TruncatedFrame, TooManyFrames, Source, Sink, Memory}
use Rattle.route_service.proofs.ServeLemmas.{framed-more, short-more, run-more}

-- ---- how an input begins

front_at-whole : (most : ℕ) (body more : List ℕ) → length body ≤ most → front_at most (length body) (body ++ more) ≡ WholeMap body more
front_at-whole most body more short = grind (arith, nat_tests, take-append_seam, drop-append_seam, length-append, short)

front-frame : (most : ℕ) (body more : List ℕ) → most < 2 ^ 32 → length body ≤ most → front most (frame_of body ++ more) ≡ WholeMap body more
unfolding frame_of front
front-frame most body more small short =
    rw (from_be_bytes-to_be_bytes_4 (length body) (omega (arith, small, short))) (front_at-whole most body more short)

front-long : (most : ℕ) (octets rest : List ℕ) → IsTooLong most octets → front most (octets ++ rest) ≡ Long
unfolding front
front-long most [] rest is = absurd (omega (arith, is.size))
front-long most (a ∷ []) rest is = absurd (omega (arith, is.size))
front-long most (a ∷ b ∷ []) rest is = absurd (omega (arith, is.size))
front-long most (a ∷ b ∷ c ∷ []) rest is = absurd (omega (arith, is.size))
front-long most (a ∷ b ∷ c ∷ d ∷ []) rest is = let above = is.above in grind (arith, nat_tests, above)
front-long most (a ∷ b ∷ c ∷ d ∷ e ∷ octets) rest is = absurd (omega (arith, is.size))

front-short : (most : ℕ) (octets : List ℕ) → 0 < length octets → IsPart most octets → front most octets ≡ Short
unfolding front
front-short most [] some is = absurd (omega (arith, some))
front-short most (a ∷ []) some is = refl
front-short most (a ∷ b ∷ []) some is = refl
front-short most (a ∷ b ∷ c ∷ []) some is = refl
front-short most (a ∷ b ∷ c ∷ d ∷ octets) some is = let whole = is.whole (omega arith) in grind (arith, nat_tests, whole)

-- ---- frames before the rest are read first

split-framed : (most m : ℕ) (frames : List (List ℕ)) (tail : List ℕ) → most < 2 ^ 32 → AllByRecursion (λ frame. length frame ≤ most) frames →
    split most (length frames + m) (framed frames ++ tail) ≡ record { frames = frames ++ (split most m tail).frames; ending = (split most m tail).ending }
unfolding split
split-framed most m [] tail small short = let same : 0 + m ≡ m = omega arith in rw same refl
split-framed most m (f ∷ frames) tail small short =
    let more : suc (length frames) + m ≡ suc (length frames + m) = omega arith in
    let apart : framed (f ∷ frames) ++ tail ≡ frame_of f ++ (framed frames ++ tail) = append_assoc (frame_of f) (framed frames) tail in
    ap (λ n. split most n (framed (f ∷ frames) ++ tail)) more ∙ ap (split most (suc (length frames + m))) apart
    ∙ ap (split_at (split most (length frames + m))) (front-frame most f (framed frames ++ tail) small short.0)
    ∙ ap (λ (input : Input). record { frames = f ∷ input.frames; ending = input.ending }) (split-framed most m frames tail small short.1)

split-none : (most m : ℕ) → split most m [] ≡ record { frames = []; ending = Regular }
unfolding split front
split-none most zero = refl
split-none most (suc m) = refl

split-long : (most m : ℕ) (octets rest : List ℕ) → 0 < m → IsTooLong most octets → split most m (octets ++ rest) ≡ record { frames = []; ending = TooLong }
unfolding split
split-long most zero octets rest some is = absurd (omega (arith, some))
split-long most (suc m) octets rest some is = ap (split_at (split most m)) (front-long most octets rest is)

split-short : (most m : ℕ) (octets : List ℕ) → 0 < m → 0 < length octets → IsPart most octets → split most m octets ≡ record { frames = []; ending = Truncated }
unfolding split
split-short most zero octets room some is = absurd (omega (arith, room))
split-short most (suc m) octets room some is = ap (split_at (split most m)) (front-short most octets some is)

split-many : (most m : ℕ) (octets rest : List ℕ) → m ≡ 0 → 0 < length octets → split most m (octets ++ rest) ≡ record { frames = []; ending = TooMany }
unfolding split
split-many most zero [] rest none some = absurd (omega (arith, some))
split-many most zero (x ∷ octets) rest none some = refl
split-many most (suc m) octets rest none some = absurd (omega (arith, none))

-- the frames, followed by those of the rest
splits : (most limit : ℕ) (text : List ℕ) (fs : List (List ℕ)) (tail : List ℕ) → most < 2 ^ 32 → text ≡ framed fs ++ tail → AllByRecursion (λ frame. length frame ≤ most) fs → length fs ≤ limit →
    split most limit text ≡ record { frames = fs ++ (split most (limit - length fs) tail).frames; ending = (split most (limit - length fs) tail).ending }
splits most limit text fs tail small is short within =
    let room : limit ≡ length fs + (limit - length fs) = omega (arith, within) in
    ap (λ n. split most n text) room ∙ ap (split most (length fs + (limit - length fs))) is ∙ split-framed most (limit - length fs) fs tail small short

-- only these frames, if the rest has none
ends : (most limit : ℕ) (text : List ℕ) (fs : List (List ℕ)) (tail : List ℕ) (ending : Ending) → most < 2 ^ 32 → text ≡ framed fs ++ tail → AllByRecursion (λ frame. length frame ≤ most) fs → length fs ≤ limit →
    split most (limit - length fs) tail ≡ record { frames = []; ending = ending } → split most limit text ≡ record { frames = fs; ending = ending }
ends most limit text fs tail ending small is short within rest =
    splits most limit text fs tail small is short within
    ∙ ap (λ (input : Input). record { frames = fs ++ input.frames; ending = input.ending }) rest
    ∙ ap (λ xs. record { frames = xs; ending = ending }) (append-nil fs)

-- in any case, the first frames
first_ones : (most limit : ℕ) (text : List ℕ) (fs : List (List ℕ)) (tail : List ℕ) → most < 2 ^ 32 → text ≡ framed fs ++ tail → AllByRecursion (λ frame. length frame ≤ most) fs → length fs ≤ limit →
    take (length fs) (split most limit text).frames ≡ fs
first_ones most limit text fs tail small is short within =
    ap (λ (input : Input). take (length fs) input.frames) (splits most limit text fs tail small is short within) ∙ take-append_seam fs (split most (limit - length fs) tail).frames

-- ---- the result of serving an input

module _ (hash sha : List ℕ → List ℕ) where
  all_written : (first last : State) (most limit count : ℕ) (text : List ℕ) (between old new : Option (List ℕ)) (ending : Ending) → most < 2 ^ 32 → count ≤ limit →
      (served : Served hash sha first last most count (Some text) between old new) → ((xs : List ℕ) → between ≡ Some xs → split most (limit - count) xs ≡ record { frames = []; ending = ending }) →
      ((split most limit text).ending ≡ ending) × WritesRun hash sha first (split most limit text).frames old new
  all_written first last most limit count text None old new ending small within served rest = absurd served.took
  all_written first last most limit count text (Some xs) old new ending small within served rest =
      let number = served.number in
      let none : split most (limit - length served.frames) xs ≡ record { frames = []; ending = ending } = ap (λ n. split most (limit - n) xs) number ∙ rest xs refl in
      let e = ends most limit text served.frames xs ending small served.took served.short (omega (arith, within, number)) none in
      let frames : served.frames ≡ (split most limit text).frames = sym (ap (λ (input : Input). input.frames) e) in (
        ap (λ (input : Input). input.ending) e,
        record {
          last = last;
          replies = served.replies;
          run = subst (λ fs. Run hash sha first fs served.replies last) frames served.run;
          isolated = subst (λ fs. IsIsolated hash sha first fs served.replies) frames served.isolated;
          wrote = served.wrote;
        },
      )

  some_written : (first last : State) (most limit count : ℕ) (text : List ℕ) (between old new : Option (List ℕ)) → most < 2 ^ 32 → count ≤ limit →
      Served hash sha first last most count (Some text) between old new → (n : ℕ) × WritesRun hash sha first (take n (split most limit text).frames) old new
  some_written first last most limit count text None old new small within served = absurd served.took
  some_written first last most limit count text (Some xs) old new small within served =
      let number = served.number in
      let frames : served.frames ≡ take (length served.frames) (split most limit text).frames = sym (first_ones most limit text served.frames xs small served.took served.short (omega (arith, within, number))) in (
        length served.frames,
        record {
          last = last;
          replies = served.replies;
          run = subst (λ fs. Run hash sha first fs served.replies last) frames served.run;
          isolated = subst (λ fs. IsIsolated hash sha first fs served.replies) frames served.isolated;
          wrote = served.wrote;
        },
      )

  front_written : (first last : State) (most limit count : ℕ) (text : List ℕ) (rest old new : Option (List ℕ)) → most < 2 ^ 32 → count < limit →
      Cut hash sha first last most count (Some text) rest old new → (n : ℕ) × WritesFront hash sha first (take n (split most limit text).frames) old new
  front_written first last most limit count text rest old new small within cut = by_rest cut.between rest cut.served cut.took
    where
      by_rest : (between rest : Option (List ℕ)) → Served hash sha first cut.state most count (Some text) between old cut.written → Consumes between rest (frame_of cut.frame) →
          (n : ℕ) × WritesFront hash sha first (take n (split most limit text).frames) old new
      by_rest None rest served took = absurd served.took
      by_rest (Some xs) None served took = absurd took
      by_rest (Some xs) (Some after) served took =
          let fs = served.frames ++ cut.frame ∷ [] in
          let number = served.number in
          let is : text ≡ framed fs ++ after =
          served.took ∙ ap (λ t. framed served.frames ++ t) took ∙ sym (append_assoc (framed served.frames) (frame_of cut.frame) after) ∙ ap (λ t. t ++ after) (framed-more served.frames cut.frame) in
          let long : length fs ≤ limit = omega (arith, within, number, length-append served.frames (cut.frame ∷ [])) in
          let frames : fs ≡ take (length fs) (split most limit text).frames = sym (first_ones most limit text fs after small is (short-more _ served.frames cut.frame served.short cut.short) long) in
          let run = run-more hash sha first cut.state last served.frames served.replies cut.frame cut.reply served.run cut.step in (
            length fs,
            record {
              last = last;
              replies = served.replies ++ cut.reply ∷ [];
              run = subst (λ gs. Run hash sha first gs (served.replies ++ cut.reply ∷ []) last) frames run;
              isolated = subst (λ gs. IsIsolated hash sha first gs (served.replies ++ cut.reply ∷ [])) frames (isolated hash sha first last fs (served.replies ++ cut.reply ∷ []) run);
              wrote = subst (AppendsFront old new) (framed-more served.replies cut.reply) (AppendsFront_next old cut.written new (framed served.replies) (frame_of cut.reply) served.wrote cut.front);
            },
          )

  -- the result for the rest
  at_end : (most m : ℕ) (rest : Option (List ℕ)) → IsAtEnd rest → (xs : List ℕ) → rest ≡ Some xs → split most m xs ≡ record { frames = []; ending = Regular }
  at_end most m None end xs e = absurd (cc e)
  at_end most m (Some ys) end xs e = let same : ys ≡ xs = cc in ap (split most m) (sym same ∙ end) ∙ split-none most m

  long_rest : (most m : ℕ) (between rest : Option (List ℕ)) (octets : List ℕ) → 0 < m → IsTooLong most octets → Consumes between rest octets → (xs : List ℕ) → between ≡ Some xs → split most m xs ≡ record { frames = []; ending = TooLong }
  long_rest most m None rest octets some is took xs e = absurd (cc e)
  long_rest most m (Some ys) None octets some is took xs e = absurd took
  long_rest most m (Some ys) (Some after) octets some is took xs e = let same : ys ≡ xs = cc in ap (split most m) (sym same ∙ took) ∙ split-long most m octets after some is

  short_rest : (most m : ℕ) (between rest : Option (List ℕ)) (octets : List ℕ) → 0 < m → 0 < length octets → IsPart most octets → Consumes between rest octets → IsAtEnd rest → (xs : List ℕ) → between ≡ Some xs → split most m xs ≡ record { frames = []; ending = Truncated }
  short_rest most m None rest octets room some is took end xs e = absurd (cc e)
  short_rest most m (Some ys) None octets room some is took end xs e = absurd took
  short_rest most m (Some ys) (Some after) octets room some is took end xs e =
      let same : ys ≡ xs = cc in
      ap (split most m) (sym same ∙ took ∙ ap (λ t. octets ++ t) end ∙ append-nil octets) ∙ split-short most m octets room some is

  more_rest : (most m : ℕ) (between rest : Option (List ℕ)) (octets : List ℕ) → m ≡ 0 → 0 < length octets → Consumes between rest octets → (xs : List ℕ) → between ≡ Some xs → split most m xs ≡ record { frames = []; ending = TooMany }
  more_rest most m None rest octets none some took xs e = absurd (cc e)
  more_rest most m (Some ys) None octets none some took xs e = absurd took
  more_rest most m (Some ys) (Some after) octets none some took xs e = let same : ys ≡ xs = cc in ap (split most m) (sym same ∙ took) ∙ split-many most m octets after none some

  pub told_input : (first last : State) (most limit : ℕ) (text : List ℕ) (rest old new : Option (List ℕ)) (result : Result (Unit {0}) ServeError) → most < 2 ^ 32 →
      Serves hash sha first last most limit (Some text) rest old new result → ServesInput hash sha first (split most limit text) old new result
  told_input first last most limit text rest old new (Ok done) small serves =
      all_written first last most limit serves.0 text rest old new Regular small serves.1 serves.2 (at_end most (limit - serves.0) rest serves.3)
  told_input first last most limit text rest old new (Err FrameTooLong) small serves = let s = serves.2 in
      all_written first last most limit serves.0 text s.between old new TooLong small (omega (arith, serves.1)) s.served
      (long_rest most (limit - serves.0) s.between rest s.octets (omega (arith, serves.1)) s.is s.took)
  told_input first last most limit text rest old new (Err TruncatedFrame) small serves = let s = serves.2 in
      all_written first last most limit serves.0 text s.between old new Truncated small (omega (arith, serves.1)) s.served
      (short_rest most (limit - serves.0) s.between rest s.octets (omega (arith, serves.1)) s.is.0 s.is.1 s.took serves.3)
  told_input first last most limit text rest old new (Err TooManyFrames) small serves =
      all_written first last most limit limit text serves.between old new TooMany small (omega arith) serves.served
      (more_rest most (limit - limit) serves.between rest serves.octets (omega arith) (omega (arith, serves.is)) serves.took)
  told_input first last most limit text rest old new (Err Source) small serves = let s = serves.2 in
      some_written first last most limit serves.0 text s.between old new small serves.1 s.served
  told_input first last most limit text rest old new (Err Sink) small serves = front_written first last most limit serves.0 text rest old new small serves.1 serves.2
  told_input first last most limit text rest old new (Err (Memory _)) small serves = let s = serves.2 in
      some_written first last most limit serves.0 text s.between old new small (omega (arith, serves.1)) s.served

  -- if the source does not state its contents, some frames were served

  untold_written : (first last : State) (most count : ℕ) (between old new : Option (List ℕ)) (served : Served hash sha first last most count None between old new) → WritesRun hash sha first served.frames old new
  untold_written first last most count between old new served = record { last = last; replies = served.replies; run = served.run; isolated = served.isolated; wrote = served.wrote }

  all_untold : (first last : State) (most count : ℕ) (between old new : Option (List ℕ)) (ending : Ending) → Served hash sha first last most count None between old new →
      (input : Input) × (Unit {0}) × ((input.ending ≡ ending) × WritesRun hash sha first input.frames old new)
  all_untold first last most count between old new ending served = (record { frames = served.frames; ending = ending }, tt, (refl, untold_written first last most count between old new served))

  some_untold : (first last : State) (most count : ℕ) (between old new : Option (List ℕ)) → Served hash sha first last most count None between old new →
      (input : Input) × (Unit {0}) × ((n : ℕ) × WritesRun hash sha first (take n input.frames) old new)
  some_untold first last most count between old new served = (
    record { frames = served.frames; ending = Regular },
    tt,
    (length served.frames, subst (λ fs. WritesRun hash sha first fs old new) (sym (take_all (length served.frames) served.frames (omega arith))) (untold_written first last most count between old new served)),
  )

  front_untold : (first last : State) (most count : ℕ) (rest old new : Option (List ℕ)) → Cut hash sha first last most count None rest old new →
      (input : Input) × (Unit {0}) × ((n : ℕ) × WritesFront hash sha first (take n input.frames) old new)
  front_untold first last most count rest old new cut =
      let fs = cut.served.frames ++ cut.frame ∷ [] in
      let run = run-more hash sha first cut.state last cut.served.frames cut.served.replies cut.frame cut.reply cut.served.run cut.step in
      let writes : WritesFront hash sha first fs old new = record {
        last = last;
        replies = cut.served.replies ++ cut.reply ∷ [];
        run = run;
        isolated = isolated hash sha first last fs (cut.served.replies ++ cut.reply ∷ []) run;
        wrote = subst (AppendsFront old new) (framed-more cut.served.replies cut.reply) (AppendsFront_next old cut.written new (framed cut.served.replies) (frame_of cut.reply) cut.served.wrote cut.front);
      } in
      (record { frames = fs; ending = Regular }, tt, (length fs, subst (λ gs. WritesFront hash sha first gs old new) (sym (take_all (length fs) fs (omega arith))) writes))

  pub serves_input : (first last : State) (most limit : ℕ) (left rest old new : Option (List ℕ)) (result : Result (Unit {0}) ServeError) → most < 2 ^ 32 →
      Serves hash sha first last most limit left rest old new result → (input : Input) × IsInput most limit left input × ServesInput hash sha first input old new result
  serves_input first last most limit (Some text) rest old new result small serves = (split most limit text, refl, told_input first last most limit text rest old new result small serves)
  serves_input first last most limit None rest old new (Ok done) small serves = all_untold first last most serves.0 rest old new Regular serves.2
  serves_input first last most limit None rest old new (Err FrameTooLong) small serves = all_untold first last most serves.0 serves.2.between old new TooLong serves.2.served
  serves_input first last most limit None rest old new (Err TruncatedFrame) small serves = all_untold first last most serves.0 serves.2.between old new Truncated serves.2.served
  serves_input first last most limit None rest old new (Err TooManyFrames) small serves = all_untold first last most limit serves.between old new TooMany serves.served
  serves_input first last most limit None rest old new (Err Source) small serves = some_untold first last most serves.0 serves.2.between old new serves.2.served
  serves_input first last most limit None rest old new (Err Sink) small serves = front_untold first last most serves.0 rest old new serves.2
  serves_input first last most limit None rest old new (Err (Memory _)) small serves = some_untold first last most serves.0 serves.2.between old new serves.2.served
