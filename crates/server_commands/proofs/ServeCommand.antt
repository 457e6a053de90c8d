-- How `serve` ends.
use Rattle.std.proofs.Common.{◌≡◌, inl, inr, ℕ, ◌+◌, ◌<◌, ◌≤◌, List, [], length, take, append-nil, refl, sym, ap, subst, ◌∙◌, arith, IfSome, IfNone, IfOk, OnOk}
use Rattle.std.proofs.lemmas.Bool.{cases_lt}
use Rattle.std.specs.declared.option.Option.{Option}
use Rattle.std.specs.declared.option.Option.TheVariants.{None, Some}
use Rattle.std.specs.declared.result.Result.{Result}
use Rattle.std.specs.declared.result.Result.TheVariants.{Ok, Err}
use Rattle.std.specs.Io.KnownBytes.{Appends, Consumes, IsAtEnd}
use Rattle.sha2.specs.Sha256.{sha256}
use Rattle.road_io.specs.Causes.{Rose}
use Rattle.road_io.specs.Contents.{Folder, AppendsFront}
use Rattle.road_io.specs.Disk.{Narrows}
use Rattle.route_service.specs.Frames.{frame_of, framed, IsPart, IsTooLong}
use Rattle.route_service.proofs.FrameLemmas.{length_frame}
use Rattle.road_io.proofs.ReadLemmas.{Consumes-++, Consumes-none}
use Rattle.proof_octets.specs.declared.header.Header.{Header}
use Rattle.proof_octets.specs.declared.publication.Publication.{Publication}
use Rattle.route_server.specs.declared.errors.BuildError.{BuildError}
use Rattle.route_server.specs.declared.errors.BuildError.TheVariants as build
use Rattle.route_client.specs.declared.errors.CheckError.{CheckError}
use Rattle.road_line.specs.VerdictLine.{refused_line}
use Rattle.route_service.specs.declared.guard.Guard.{Guard}
use Rattle.route_service.specs.declared.guard.Guard.TheVariants.{Open}
use Rattle.route_service.specs.Machine.{State, first_state}
use Rattle.route_service.specs.Inputs.{Ending as InputEnding, Input, IsInput, split, WritesRun, WritesFront, ServesInput}
use Rattle.route_service.specs.Inputs.Ending.{Regular, TooLong, Truncated, TooMany}
use Rattle.route_service.specs.Serving.{IsUnanswered, Served, Then, Cut, Serves}
use Rattle.route_service.specs.declared.serving.ServeError.{ServeError}
use Rattle.route_service.specs.declared.serving.ServeError.TheVariants as errors
use Rattle.command_files.specs.Reading.{publication_at, IsOfFiles, Fails, Loads}
use Rattle.command_files.specs.Endings.{Ending, EndsReading, Answered, HasUntoldCause, MayEnd, Writes, Promises, NoDisk, NoEnd, WhyNot}
use Rattle.command_files.specs.declared.fault.Fault.{Fault}
use Rattle.command_files.specs.declared.fault.Fault.TheVariants.{Words, Missing, TooLong as too_long, Road, Dimacs, Map, Plan, Malformed, HeaderWrong, BadHex, TruncatedFrame, FrameTooLong, Library, Source, Sink, Disk, Memory, TooManyFrames, MirrorLost}
use Rattle.command_files.specs.declared.ended.Conclusion.{Conclusion}
use Rattle.command_files.specs.declared.ended.Conclusion.TheVariants.{Done, Refused}
use Rattle.command_files.proofs.Written.{CallsFor, failed, over, over_both, over_any, moved, reads, keeps_same, appends_none, no_untold, out_of_memory, refused, written, why_map}
use Rattle.command_books.specs.Installing.{AfterBuild, IfInstalled, EndsInstalling, IsInstallable}
use Rattle.command_books.proofs.Installings.{installed, not_installed}
use Rattle.server_commands.specs.Guarding.{ServeFiles, unguarded, IsAsNamed, guard_at, Holds, tested, refusal_line, EndsTesting}
use Rattle.server_commands.specs.Serving.{EndsFrames, EndsServe, EndsServeSome, EndsServing, ends_serving, ends_serve, AnswersFrames, AnswersInput, TookFrames, LeavesInput, ServedOver, RefusedFirst, AnswersTaken, ServesFrames, TellsFrames, first_frames, ended_at, most_octets, most_frames}
use Rattle.server_commands.specs.ServingEnds.{ended_serving}
use Rattle.octet_text.specs.Want.{no_memory}

abbrev not_loaded : Fault → Result Publication Fault
not_loaded f = Err f

-- the frames of the octets that are left, or of some input
some_input : (left : Option (List ℕ)) → (input : Input) × IsInput most_octets most_frames left input
some_input None = (record { frames = []; ending = Regular }, tt)
some_input (Some text) = (split most_octets most_frames text, refl)

-- two faults differ
same_fault : (e g : Fault) → failed e ≡ failed g → e ≡ g
same_fault e g is = cc

not_done : (e : Fault) → failed e ≡ Ok Done → ⊥
not_done e is = cc

-- ---- a file of a publication or of a guard that cannot be read

-- serving after the guard's files are read
abbrev behind_guard : ServeFiles → (Guard → Publication → Ending) → Folder → Publication → Ending
behind_guard named Serves folder p = EndsReading (guard_at folder named.guard) (λ guard. EndsTesting (tested guard p) (Serves guard p))

-- with tests that pass or fail
behind_tests : (Serves : Guard → Publication → Ending) (named : ServeFiles) (guard : Guard) (p : Publication) (folder : Folder) → Holds named guard p folder → (o : Result Conclusion Fault) (text : List ℕ)
    → EndsTesting (tested guard p) (Serves guard p) o text → EndsServing named Serves folder o text
behind_tests Serves named guard p folder h o text s =
    reads (publication_at folder named.publication) p (behind_guard named Serves folder) o text h.0
    (reads (guard_at folder named.guard) guard (λ g. EndsTesting (tested g p) (Serves g p)) o text h.1 s)

serves_in : (Serves : Guard → Publication → Ending) (named : ServeFiles) (guard : Guard) (p : Publication) → tested guard p ≡ Ok tt → (folder : Folder) → Holds named guard p folder
    → (o : Result Conclusion Fault) (text : List ℕ) → Serves guard p o text → EndsServing named Serves folder o text
serves_in Serves named guard p passed folder h o text s =
    behind_tests Serves named guard p folder h o text (subst (λ (r : Result (Unit {0}) CheckError). EndsTesting r (Serves guard p) o text) (sym passed) s)

-- a file that does not encode a publication, and one that does not hold a guard
pub no_publication : (Serves : Guard → Publication → Ending) (named : ServeFiles) (folder : Folder) (e : Fault) → publication_at folder named.publication ≡ Err e → EndsServing named Serves folder (failed e) []
no_publication Serves named folder e read = subst (λ (r : Result Publication Fault). EndsReading r (behind_guard named Serves folder) (failed e) []) (sym read) (refl, refl)

pub no_guard : (Serves : Guard → Publication → Ending) (named : ServeFiles) (p : Publication) (folder : Folder) → publication_at folder named.publication ≡ Ok p → (e : Fault) → guard_at folder named.guard ≡ Err e
    → EndsServing named Serves folder (failed e) []
no_guard Serves named p folder is e read =
    reads (publication_at folder named.publication) p (behind_guard named Serves folder) (failed e) [] is
    (subst (λ (r : Result Guard Fault). EndsReading r (λ guard. EndsTesting (tested guard p) (Serves guard p)) (failed e) []) (sym read) (refl, refl))

-- one of them, as reported by a function that reads it
unread : {X : Type 0} (read : Result X Fault) (named : ServeFiles) (input : Input) (folder : Folder) (old : Option (List ℕ)) (e : Fault) → IsOfFiles e
    → ((f : Fault) → read ≡ Err f → ends_serving named input folder (failed f) []) → Fails e read → AnswersFrames named input folder old old (Err e)
unread read named input folder old Missing of ends is = (ends Missing is, keeps_same old)
unread read named input folder old too_long of ends is = (ends too_long is, keeps_same old)
unread read named input folder old (Road fault) of ends is = (ends (Road fault) is, keeps_same old)
unread read named input folder old (Dimacs fault) of ends is = (ends (Dimacs fault) is, keeps_same old)
unread read named input folder old (Malformed at) of ends is = (ends (Malformed at) is, keeps_same old)
unread read named input folder old BadHex of ends is = (ends BadHex is, keeps_same old)
unread read named input folder old Library of ends is = keeps_same old
unread read named input folder old (Memory _) of ends is = inl (keeps_same old)
unread read named input folder old e of ends is = absurd of

-- ---- the octets that are left

-- no octet was taken
none_taken : (left : Option (List ℕ)) → TookFrames left left
none_taken left = record { frames = []; octets = []; took = Consumes-none left; few = omega arith }

-- a file that does not encode a publication leaves the whole input
unread_leaves : (left : Option (List ℕ)) (e : Fault) → IsOfFiles e → LeavesInput left left (Err e)
unread_leaves left Missing of = refl
unread_leaves left too_long of = refl
unread_leaves left (Road fault) of = refl
unread_leaves left (Dimacs fault) of = refl
unread_leaves left (Malformed at) of = refl
unread_leaves left BadHex of = refl
unread_leaves left Library of = refl
unread_leaves left (Memory _) of = none_taken left
unread_leaves left e of = absurd of

part_few : (octets : List ℕ) → IsPart most_octets octets → length octets ≤ 4 + most_octets
part_few octets part = elim (cases_lt (length octets) 4) [
  | inl short ↦ omega (arith, short)
  | inr long ↦ let h = part.whole long in omega (arith, h.0, h.1)
]

unanswered_few : (octets : List ℕ) → IsUnanswered most_octets octets → length octets ≤ 4 + most_octets
unanswered_few octets (inl head) = omega (arith, head.size)
unanswered_few octets (inr (frame, short, is)) = rw is (omega (arith, length_frame frame, short))

-- nothing was taken or written for such a file
unread_takes : (files : Option Folder) (named : ServeFiles) (left old : Option (List ℕ)) (e : Fault) → IsOfFiles e → AnswersTaken named files left left old old (Err e)
unread_takes files named left old Missing of = (refl, keeps_same old)
unread_takes files named left old too_long of = (refl, keeps_same old)
unread_takes files named left old (Road fault) of = (refl, keeps_same old)
unread_takes files named left old (Dimacs fault) of = (refl, keeps_same old)
unread_takes files named left old (Malformed at) of = (refl, keeps_same old)
unread_takes files named left old BadHex of = (refl, keeps_same old)
unread_takes files named left old Library of = (refl, keeps_same old)
unread_takes files named left old (Memory _) of = inl (refl, keeps_same old)
unread_takes files named left old e of = absurd of

-- frames that were served, and the octets taken after them
module _ (first last : State) (count : ℕ) (left rest old new : Option (List ℕ)) where
  took_then : (Is : List ℕ → Type 0) → ((octets : List ℕ) → Is octets → length octets ≤ 4 + most_octets) → Then sha256 sha256 first last most_octets count left rest old new Is → TookFrames left rest
  took_then Is few t = record {
    frames = t.served.frames;
    octets = t.octets;
    took = Consumes-++ left t.between rest _ _ t.served.took t.took;
    few = few t.octets t.is;
  }

  took_all : Served sha256 sha256 first last most_octets count left rest old new → TookFrames left rest
  took_all s = record { frames = s.frames; octets = []; took = subst (Consumes left rest) (sym (append-nil (framed s.frames))) s.took; few = omega arith }

  took_cut : Cut sha256 sha256 first last most_octets count left rest old new → TookFrames left rest
  took_cut c = record {
    frames = c.served.frames;
    octets = frame_of c.frame;
    took = Consumes-++ left c.between rest _ _ c.served.took c.took;
    few = omega (arith, length_frame c.frame, c.short);
  }

leaves : (first last : State) (left rest old new : Option (List ℕ)) (r : Result (Unit {0}) ServeError) → Serves sha256 sha256 first last most_octets most_frames left rest old new r → LeavesInput left rest (ended_serving r)
leaves first last left rest old new (Ok ended) s = took_all first last s.0 left rest old new s.2
leaves first last left rest old new (Err errors.FrameTooLong) s = took_then first last s.0 left rest old new (IsTooLong most_octets) (λ octets h. omega (arith, h.size)) s.2
leaves first last left rest old new (Err errors.TruncatedFrame) s =
    took_then first last s.0 left rest old new (λ octets. (0 < length octets) × IsPart most_octets octets) (λ octets h. part_few octets h.1) s.2
leaves first last left rest old new (Err errors.TooManyFrames) s = took_then first last most_frames left rest old new (λ octets. length octets ≡ 1) (λ octets h. omega (arith, h)) s
leaves first last left rest old new (Err errors.Source) s = took_then first last s.0 left rest old new (IsPart most_octets) part_few s.2
leaves first last left rest old new (Err errors.Sink) s = took_cut first last s.0 left rest old new s.2
leaves first last left rest old new (Err (errors.Memory _)) s = took_then first last s.0 left rest old new (IsUnanswered most_octets) unanswered_few s.2

-- the faults of a book that is not built, or that belongs to another publication
abbrev IsOfBooks : Fault → Type 0
IsOfBooks (Map fault) = Unit {0}
IsOfBooks (Plan fault) = Unit {0}
IsOfBooks HeaderWrong = Unit {0}
IsOfBooks fault = ⊥

-- a file that a function has read, with this meaning in a folder
pub unread_serves : {X : Type 0} (read : Folder → Result X Fault) (files : Option Folder) (named : ServeFiles) (left old : Option (List ℕ)) (s s' : ℕ) (e : Fault) → IsOfFiles e
    → ((folder : Folder) (input : Input) (f : Fault) → read folder ≡ Err f → ends_serving named input folder (failed f) []) → IfSome files (λ folder. Fails e (read folder))
    → ServesFrames named files left left s s' old old (Err e)
unread_serves read files named left old s s' e of ends fails = record {
  served = over files (λ folder. Fails e (read folder)) (λ folder. AnswersInput named left folder old old (Err e))
      (λ folder h. let i = some_input left in (i.0, i.1, unread (read folder) named i.0 folder old e of (ends folder i.0) h)) fails;
  taken = unread_takes files named left old e of;
  source = λ is. absurd (subst IsOfFiles (same_fault e Source is) of);
  left = unread_leaves left e of;
  drained = λ is. absurd (not_done e is);
}

module _ (files : Option Folder) (named : ServeFiles) (guard : Guard) (p : Publication) (l l' k k' : ℕ) (passed : tested guard p ≡ Ok tt) (holds : IfSome files (Holds named guard p)) where
  -- what the file of a publication requires
  calls : (o : Result Conclusion Fault) (text : List ℕ) → EndsServeSome guard p o text → CallsFor (ends_serve named) files o text
  calls o text h =
      over files (Holds named guard p) (λ folder. ends_serve named folder o text)
      (λ folder is. serves_in EndsServeSome named guard p passed folder is o text h) holds

  serving : (input : Input) (o : Result Conclusion Fault) (text : List ℕ) (folder : Folder) → Holds named guard p folder → EndsServe guard input p o text → ends_serving named input folder o text
  serving input o text folder is h = serves_in (λ g q. EndsServe g input q) named guard p passed folder is o text h

  -- ---- a publication that was not installed

  no_frames : Input
  no_frames = record { frames = []; ending = Regular }

  -- the fault is one of these
  of_books : (f : Fault) (text : List ℕ) → EndsInstalling p NoEnd (failed f) text → IsOfBooks f
  of_books f text h = after h.made h.follows
    where
      after : (m : Result Header BuildError) → AfterBuild (IfInstalled p NoEnd) m (failed f) text → IsOfBooks f
      after (Ok x) (inl a) = absurd a.1
      after (Ok x) (inr a) = subst IsOfBooks (sym (same_fault f HeaderWrong a.1)) tt
      after (Err (build.Map e)) a = subst IsOfBooks (sym (same_fault f (Map e) a.0)) tt
      after (Err (build.Plan e)) a = subst IsOfBooks (sym (same_fault f (Plan e) a.0)) tt
      after (Err (build.Memory _)) a = absurd a

  -- it does not report a failure of the source
  no_source : (text : List ℕ) → EndsInstalling p NoEnd (failed Source) text → ⊥
  no_source text h = of_books Source text h

  ends_some : (o : Result Conclusion Fault) (text : List ℕ) → EndsInstalling p NoEnd o text → EndsServeSome guard p o text
  ends_some (Err Source) text h = absurd (no_source text h)
  ends_some o text h = (no_frames, not_installed p (EndsFrames guard no_frames p) o text h)

  pub serve_refused : (old : Option (List ℕ)) (f : Fault) → WhyNot NoDisk (EndsInstalling p NoEnd) f → Promises (ends_serve named) TellsFrames NoDisk files l l' old old k k' (Err f)
  serve_refused old f h =
      refused (ends_serve named) TellsFrames NoDisk files l l' k k' old (EndsServeSome guard p) calls f
      (why_map NoDisk NoDisk (EndsInstalling p NoEnd) (EndsServeSome guard p) (λ x. x) ends_some f h)

  refused_here : (folder : Folder) → Holds named guard p folder → (input : Input) (old : Option (List ℕ)) (f : Fault) → WhyNot NoDisk (EndsInstalling p NoEnd) f → AnswersFrames named input folder old old (Err f)
  refused_here folder is input old (Memory _) h = inl (keeps_same old)
  refused_here folder is input old Disk h = absurd h
  refused_here folder is input old Words h = absurd h
  refused_here folder is input old Missing h = absurd h
  refused_here folder is input old too_long h = absurd h
  refused_here folder is input old Library h = absurd h
  refused_here folder is input old Source h = absurd h
  refused_here folder is input old Sink h = absurd h
  refused_here folder is input old MirrorLost h = absurd h
  refused_here folder is input old TruncatedFrame h =
      ([], serving input (Err TruncatedFrame) [] folder is (not_installed p (EndsFrames guard input p) (Err TruncatedFrame) [] h), appends_none old)
  refused_here folder is input old FrameTooLong h =
      ([], serving input (Err FrameTooLong) [] folder is (not_installed p (EndsFrames guard input p) (Err FrameTooLong) [] h), appends_none old)
  refused_here folder is input old TooManyFrames h =
      ([], serving input (Err TooManyFrames) [] folder is (not_installed p (EndsFrames guard input p) (Err TooManyFrames) [] h), appends_none old)
  refused_here folder is input old f h = (serving input (Err f) [] folder is (not_installed p (EndsFrames guard input p) (Err f) [] h), keeps_same old)

  refused_leaves : (left : Option (List ℕ)) (f : Fault) → WhyNot NoDisk (EndsInstalling p NoEnd) f → LeavesInput left left (Err f)
  refused_leaves left (Memory _) h = none_taken left
  refused_leaves left TruncatedFrame h = none_taken left
  refused_leaves left FrameTooLong h = none_taken left
  refused_leaves left TooManyFrames h = none_taken left
  refused_leaves left Source h = none_taken left
  refused_leaves left Sink h = none_taken left
  refused_leaves left f h = refl

  refused_takes : (left old : Option (List ℕ)) (f : Fault) → WhyNot NoDisk (EndsInstalling p NoEnd) f → AnswersTaken named files left left old old (Err f)
  refused_takes left old (Memory _) h = inl (refl, keeps_same old)
  refused_takes left old TruncatedFrame h = absurd (of_books TruncatedFrame [] h)
  refused_takes left old FrameTooLong h = absurd (of_books FrameTooLong [] h)
  refused_takes left old TooManyFrames h = absurd (of_books TooManyFrames [] h)
  refused_takes left old Source h = absurd h
  refused_takes left old Sink h = absurd h
  refused_takes left old f h = (refl, keeps_same old)

  pub refused_serves : (left old : Option (List ℕ)) (s s' : ℕ) (f : Fault) → WhyNot NoDisk (EndsInstalling p NoEnd) f → ServesFrames named files left left s s' old old (Err f)
  refused_serves left old s s' f h = record {
    served = over files (Holds named guard p) (λ folder. AnswersInput named left folder old old (Err f))
        (λ folder is. let i = some_input left in (i.0, i.1, refused_here folder is i.0 old f h)) holds;
    taken = refused_takes left old f h;
    source = λ e. absurd (subst (λ x. WhyNot NoDisk (EndsInstalling p NoEnd) x) (same_fault f Source e) h);
    left = refused_leaves left f h;
    drained = λ e. absurd (not_done f e);
  }

  -- ---- frames that were served

  module _ (installable : IsInstallable p) where
    -- the replies to frames, however their input ends
    replied : (frames : List (List ℕ)) (ending : InputEnding) (old new : Option (List ℕ)) (w : WritesRun sha256 sha256 (first_state guard p) frames old new) →
        EndsServe guard (record { frames = frames; ending = ending }) p (ended_at ending) (framed w.replies)
    replied frames ending old new w =
        installed p (EndsFrames guard (record { frames = frames; ending = ending }) p) (ended_at ending) (framed w.replies) installable
        (record { last = w.last; replies = w.replies; run = w.run; isolated = w.isolated; written = refl; end = refl })

    replied_front : (frames : List (List ℕ)) (old new : Option (List ℕ)) (w : WritesFront sha256 sha256 (first_state guard p) frames old new) →
        EndsServe guard (record { frames = frames; ending = Regular }) p (Ok Done) (framed w.replies)
    replied_front frames old new w =
        installed p (EndsFrames guard (record { frames = frames; ending = Regular }) p) (Ok Done) (framed w.replies) installable
        (record { last = w.last; replies = w.replies; run = w.run; isolated = w.isolated; written = refl; end = refl })

    -- the end of the input itself
    of_input : (input : Input) (ending : InputEnding) (old new : Option (List ℕ)) → input.ending ≡ ending → (w : WritesRun sha256 sha256 (first_state guard p) input.frames old new) → EndsServe guard input p (ended_at ending) (framed w.replies)
    of_input input ending old new is w = subst (λ e. EndsServe guard input p (ended_at e) (framed w.replies)) is (replied input.frames input.ending old new w)

    -- replies that were written in full
    told : (old new : Option (List ℕ)) (o : Result Conclusion Fault) (text : List ℕ) → MayEnd TellsFrames o → EndsServeSome guard p o text → Appends old new text
        → Promises (ends_serve named) TellsFrames NoDisk files l l' old new k k' o
    told old new o text may h app = written (ends_serve named) TellsFrames NoDisk files l l' k k' old (EndsServeSome guard p) calls new o o text may h (inl (refl, app))

    is_memory : (g : Fault) → failed (Memory no_memory) ≡ failed g → TellsFrames g
    is_memory g e = subst (λ x. TellsFrames x) (same_fault (Memory no_memory) g e) tt

    served_ends : (input : Input) (old new : Option (List ℕ)) (r : Result (Unit {0}) ServeError) → ServesInput sha256 sha256 (first_state guard p) input old new r → (r ≡ Err errors.Sink → Rose k k')
        → Promises (ends_serve named) TellsFrames NoDisk files l l' old new k k' (ended_serving r)
    served_ends input old new (Ok ended) s rose = told old new (Ok Done) (framed s.1.replies) tt (input, of_input input Regular old new s.0 s.1) s.1.wrote
    served_ends input old new (Err errors.FrameTooLong) s rose = told old new (Err FrameTooLong) (framed s.1.replies) tt (input, of_input input TooLong old new s.0 s.1) s.1.wrote
    served_ends input old new (Err errors.TruncatedFrame) s rose = told old new (Err TruncatedFrame) (framed s.1.replies) tt (input, of_input input Truncated old new s.0 s.1) s.1.wrote
    served_ends input old new (Err errors.TooManyFrames) s rose = told old new (Err TooManyFrames) (framed s.1.replies) tt (input, of_input input TooMany old new s.0 s.1) s.1.wrote
    served_ends input old new (Err errors.Source) s rose =
        told old new (Err Source) (framed s.1.replies) tt (first_frames s.0 input, replied (take s.0 input.frames) Regular old new s.1) s.1.wrote
    served_ends input old new (Err errors.Sink) s rose =
        written (ends_serve named) TellsFrames NoDisk files l l' k k' old (EndsServeSome guard p) calls new (Ok Done) (Err Sink) (framed s.1.replies) tt
        (first_frames s.0 input, replied_front (take s.0 input.frames) old new s.1) (inr (refl, s.1.wrote, rose refl))
    served_ends input old new (Err (errors.Memory _)) s rose = record {
      answered = over_any files (λ folder. Unit {0}) (λ folder. tt);
      untold = no_untold files l l' (Err (Memory no_memory)) (λ e. cc) (λ e. cc);
      silent = λ g e n t. absurd (t (is_memory g e));
      library = λ e. absurd (cc);
      sink = λ e. absurd (cc);
      disk = λ e. absurd (cc);
      source = λ e. tt;
      mirror = λ e. absurd (cc);
      words = λ e. cc;
    }

    served_here : (folder : Folder) → Holds named guard p folder → (input : Input) (old new : Option (List ℕ)) (r : Result (Unit {0}) ServeError) → ServesInput sha256 sha256 (first_state guard p) input old new r →
        AnswersFrames named input folder old new (ended_serving r)
    served_here folder is input old new (Ok ended) s = (framed s.1.replies, serving input (Ok Done) _ folder is (of_input input Regular old new s.0 s.1), s.1.wrote)
    served_here folder is input old new (Err errors.FrameTooLong) s = (framed s.1.replies, serving input (Err FrameTooLong) _ folder is (of_input input TooLong old new s.0 s.1), s.1.wrote)
    served_here folder is input old new (Err errors.TruncatedFrame) s = (framed s.1.replies, serving input (Err TruncatedFrame) _ folder is (of_input input Truncated old new s.0 s.1), s.1.wrote)
    served_here folder is input old new (Err errors.TooManyFrames) s = (framed s.1.replies, serving input (Err TooManyFrames) _ folder is (of_input input TooMany old new s.0 s.1), s.1.wrote)
    served_here folder is input old new (Err errors.Source) s =
        (s.0, framed s.1.replies, serving (first_frames s.0 input) (Ok Done) _ folder is (replied (take s.0 input.frames) Regular old new s.1), s.1.wrote)
    served_here folder is input old new (Err errors.Sink) s =
        (s.0, Done, framed s.1.replies, serving (first_frames s.0 input) (Ok Done) _ folder is (replied_front (take s.0 input.frames) old new s.1), s.1.wrote)
    served_here folder is input old new (Err (errors.Memory _)) s =
        inr (s.0, framed s.1.replies, serving (first_frames s.0 input) (Ok Done) _ folder is (replied (take s.0 input.frames) Regular old new s.1), s.1.wrote)

    served_answers : (left old new : Option (List ℕ)) (r : Result (Unit {0}) ServeError) → ((input : Input) × IsInput most_octets most_frames left input × ServesInput sha256 sha256 (first_state guard p) input old new r) →
        IfSome files (λ folder. AnswersInput named left folder old new (ended_serving r))
    served_answers left old new r h =
        over files (Holds named guard p) (λ folder. AnswersInput named left folder old new (ended_serving r))
        (λ folder is. (h.0, h.1, served_here folder is h.0 old new r h.2)) holds

    -- the same, from the state in which the service starts

    from_first : (left old new : Option (List ℕ)) (r : Result (Unit {0}) ServeError) (state : State) → state ≡ first_state guard p →
        ((input : Input) × IsInput most_octets most_frames left input × ServesInput sha256 sha256 state input old new r) → (input : Input) × IsInput most_octets most_frames left input × ServesInput sha256 sha256 (first_state guard p) input old new r
    from_first left old new r state is h = (h.0, h.1, subst (λ (st : State). ServesInput sha256 sha256 st h.0 old new r) is h.2)

    pub serve_ends : (left old new : Option (List ℕ)) (r : Result (Unit {0}) ServeError) (state : State) → state ≡ first_state guard p →
        ((input : Input) × IsInput most_octets most_frames left input × ServesInput sha256 sha256 state input old new r) → (r ≡ Err errors.Sink → Rose k k')
        → Promises (ends_serve named) TellsFrames NoDisk files l l' old new k k' (ended_serving r)
    serve_ends left old new r state is h rose = let i = from_first left old new r state is h in served_ends i.0 old new r i.2 rose

    -- what the source has done at the end
    blamed : (r : Result (Unit {0}) ServeError) → ended_serving r ≡ Err Source → r ≡ Err errors.Source
    blamed (Ok ended) e = absurd (cc)
    blamed (Err errors.FrameTooLong) e = absurd (cc)
    blamed (Err errors.TruncatedFrame) e = absurd (cc)
    blamed (Err errors.TooManyFrames) e = absurd (cc)
    blamed (Err errors.Source) e = refl
    blamed (Err errors.Sink) e = absurd (cc)
    blamed (Err (errors.Memory _)) e = absurd (cc)

    at_end : (first last : State) (left rest old new : Option (List ℕ)) (r : Result (Unit {0}) ServeError) → Serves sha256 sha256 first last most_octets most_frames left rest old new r → ended_serving r ≡ Ok Done → IsAtEnd rest
    at_end first last left rest old new (Ok ended) s e = s.3
    at_end first last left rest old new (Err errors.FrameTooLong) s e = absurd (cc)
    at_end first last left rest old new (Err errors.TruncatedFrame) s e = absurd (cc)
    at_end first last left rest old new (Err errors.TooManyFrames) s e = absurd (cc)
    at_end first last left rest old new (Err errors.Source) s e = absurd (cc)
    at_end first last left rest old new (Err errors.Sink) s e = absurd (cc)
    at_end first last left rest old new (Err (errors.Memory _)) s e = absurd (cc)

    -- each frame that was taken
    taken_over : IsAsNamed named.guard guard → (last : State) (left rest old new : Option (List ℕ)) (r : Result (Unit {0}) ServeError) → Serves sha256 sha256 (first_state guard p) last most_octets most_frames left rest old new r → ServedOver named files left rest old new r
    taken_over fits last left rest old new r serves = record { publication = p; guard = guard; guarding = fits; of_files = holds; passed = passed; last = last; serves = serves }

    takes : IsAsNamed named.guard guard → (last : State) (left rest old new : Option (List ℕ)) (r : Result (Unit {0}) ServeError) → Serves sha256 sha256 (first_state guard p) last most_octets most_frames left rest old new r → AnswersTaken named files left rest old new (ended_serving r)
    takes fits last left rest old new (Ok ended) s = taken_over fits last left rest old new (Ok tt) s
    takes fits last left rest old new (Err errors.FrameTooLong) s = taken_over fits last left rest old new (Err errors.FrameTooLong) s
    takes fits last left rest old new (Err errors.TruncatedFrame) s = taken_over fits last left rest old new (Err errors.TruncatedFrame) s
    takes fits last left rest old new (Err errors.TooManyFrames) s = taken_over fits last left rest old new (Err errors.TooManyFrames) s
    takes fits last left rest old new (Err errors.Source) s = taken_over fits last left rest old new (Err errors.Source) s
    takes fits last left rest old new (Err errors.Sink) s = inl (taken_over fits last left rest old new (Err errors.Sink) s)
    takes fits last left rest old new (Err (errors.Memory none)) s = inr (taken_over fits last left rest old new (Err (errors.Memory none)) s)

    pub serves_frames : IsAsNamed named.guard guard → (left rest old new : Option (List ℕ)) (s s' : ℕ) (r : Result (Unit {0}) ServeError) (state last : State) → state ≡ first_state guard p →
        ((input : Input) × IsInput most_octets most_frames left input × ServesInput sha256 sha256 state input old new r)
        → Serves sha256 sha256 state last most_octets most_frames left rest old new r → (r ≡ Err errors.Source → Rose s s')
        → ServesFrames named files left rest s s' old new (ended_serving r)
    serves_frames fits left rest old new s s' r state last is h serves rose = record {
      served = served_answers left old new r (from_first left old new r state is h);
      taken = takes fits last left rest old new r (subst (λ (st : State). Serves sha256 sha256 st last most_octets most_frames left rest old new r) is serves);
      source = λ e. rose (blamed r e);
      left = leaves state last left rest old new r serves;
      drained = λ e. at_end state last left rest old new r serves e;
    }

-- ---- without a guard

-- a file that encodes this publication holds it and no guard
pub open_holds : (files : Option Folder) (name : List ℕ) (p : Publication) → IfSome files (λ folder. publication_at folder name ≡ Ok p) → IfSome files (Holds (unguarded name) Open p)
open_holds files name p read = over files (λ folder. publication_at folder name ≡ Ok p) (Holds (unguarded name) Open p) (λ folder is. (is, refl)) read

-- ---- with a guard

-- the values read before, and then the guard
pub both_hold : (first files : Option Folder) (named : ServeFiles) (guard : Guard) (p : Publication) → Narrows first files → IfSome first (λ folder. publication_at folder named.publication ≡ Ok p)
    → IfSome files (λ folder. guard_at folder named.guard ≡ Ok guard) → IfSome files (Holds named guard p)
both_hold first files named guard p narrows read guards =
    over_both files (λ folder. publication_at folder named.publication ≡ Ok p) (λ folder. guard_at folder named.guard ≡ Ok guard) (Holds named guard p)
    (λ folder is same. (is, same)) (moved first files (λ folder. publication_at folder named.publication ≡ Ok p) narrows read) guards

-- a guard that cannot be read
pub unread_guard_serves : (files : Option Folder) (named : ServeFiles) (p : Publication) (left old : Option (List ℕ)) (s s' : ℕ) (e : Fault) → IsOfFiles e
    → IfSome files (λ folder. publication_at folder named.publication ≡ Ok p) → IfSome files (λ folder. Fails e (guard_at folder named.guard)) → ServesFrames named files left left s s' old old (Err e)
unread_guard_serves files named p left old s s' e of read fails = record {
  served = over_both files (λ folder. publication_at folder named.publication ≡ Ok p) (λ folder. Fails e (guard_at folder named.guard)) (λ folder. AnswersInput named left folder old old (Err e))
      (λ folder is h.
      let i = some_input left in
      (i.0, i.1, unread (guard_at folder named.guard) named i.0 folder old e of (λ f none. no_guard (λ g q. EndsServe g i.0 q) named p folder is f none) h))
      read fails;
  taken = unread_takes files named left old e of;
  source = λ is. absurd (subst IsOfFiles (same_fault e Source is) of);
  left = unread_leaves left e of;
  drained = λ is. absurd (not_done e is);
}

-- a function that failed to read a guard, with this fault
abbrev no_guard_for : Fault → Result Guard Fault
no_guard_for f = Err f

unread_ends : (named : ServeFiles) (p : Publication) (folder : Folder) (old : Option (List ℕ)) → publication_at folder named.publication ≡ Ok p → (e : Fault) → IsOfFiles e
    → Fails e (guard_at folder named.guard) → Answered (ends_serve named folder) old old (Err e)
unread_ends named p folder old is Missing of none = no_guard EndsServeSome named p folder is Missing none
unread_ends named p folder old is too_long of none = no_guard EndsServeSome named p folder is too_long none
unread_ends named p folder old is (Road fault) of none = no_guard EndsServeSome named p folder is (Road fault) none
unread_ends named p folder old is (Dimacs fault) of none = no_guard EndsServeSome named p folder is (Dimacs fault) none
unread_ends named p folder old is (Malformed at) of none = no_guard EndsServeSome named p folder is (Malformed at) none
unread_ends named p folder old is BadHex of none = no_guard EndsServeSome named p folder is BadHex none
unread_ends named p folder old is Library of none = tt
unread_ends named p folder old is (Memory _) of none = tt
unread_ends named p folder old is e of none = absurd of

pub unread_guard_promised : (files : Option Folder) (named : ServeFiles) (p : Publication) (l mid l' k : ℕ) (old : Option (List ℕ)) (e : Fault) → mid ≡ l
    → IfSome files (λ folder. publication_at folder named.publication ≡ Ok p) → Loads (λ (guard : Guard). guard) (λ folder. guard_at folder named.guard) files mid l' (Err e)
    → Promises (ends_serve named) TellsFrames NoDisk files l l' old old k k (Err e)
unread_guard_promised files named p l mid l' k old e same read loads = record {
  answered = over_both files (λ folder. publication_at folder named.publication ≡ Ok p) (λ folder. Fails e (guard_at folder named.guard)) (λ folder. Answered (ends_serve named folder) old old (Err e))
      (λ folder is none. unread_ends named p folder old is e loads.others none) read loads.read;
  untold = untold files loads.missing loads.too_long;
  silent = λ f is other told. keeps_same old;
  library = rose Library loads.library;
  sink = λ is. absurd (of_files Sink is (λ of. of));
  disk = λ is. absurd (of_files Disk is (λ of. of));
  source = λ is. tt;
  mirror = λ is. absurd (of_files MirrorLost is (λ of. of));
  words = λ is. of_files Words is (λ of. of);
}
  where
    rose : (f : Fault) → (no_guard_for e ≡ no_guard_for f → Rose mid l') → failed e ≡ failed f → Rose l l'
    rose f cause is = subst (λ n. Rose n l') same (cause (ap no_guard_for (same_fault e f is)))

    untold : (fs : Option Folder) → IfNone fs (no_guard_for e ≡ no_guard_for Missing → Rose mid l') → IfNone fs (no_guard_for e ≡ no_guard_for too_long → Rose mid l') → HasUntoldCause fs l l' (failed e)
    untold None m t = record { missing = rose Missing m; too_long = rose too_long t }
    untold (Some folder) m t = record { missing = tt; too_long = tt }

    of_files : (f : Fault) → failed e ≡ failed f → (IsOfFiles f → ⊥) → ⊥
    of_files f is not = not (subst IsOfFiles (same_fault e f is) loads.others)

-- out of memory
pub memory_serves : (files : Option Folder) (named : ServeFiles) (left old : Option (List ℕ)) (s s' : ℕ) (e : Fault) → e ≡ Memory no_memory → ServesFrames named files left left s s' old old (Err e)
memory_serves files named left old s s' e is = subst (λ f. ServesFrames named files left left s s' old old (Err f)) (sym is) (record {
  served = over_any files (λ folder. AnswersInput named left folder old old (Err (Memory no_memory))) (λ folder. let i = some_input left in (i.0, i.1, inl (keeps_same old)));
  taken = inl (refl, keeps_same old);
  source = λ e. absurd (cc);
  left = none_taken left;
  drained = λ e. absurd (cc);
})

pub memory_promised : (files : Option Folder) (named : ServeFiles) (l l' k k' : ℕ) (old : Option (List ℕ)) (e : Fault) → e ≡ Memory no_memory → Promises (ends_serve named) TellsFrames NoDisk files l l' old old k k' (Err e)
memory_promised files named l l' k k' old e is =
    subst (λ f. Promises (ends_serve named) TellsFrames NoDisk files l l' old old k k' (Err f)) (sym is) (out_of_memory (ends_serve named) TellsFrames NoDisk files l l' k k' old)

-- if no line is written, the tests passed
pub passes : (r : Result (Unit {0}) CheckError) → refusal_line r ≡ None → r ≡ Ok tt
passes (Ok passed) none = refl
passes (Err why) none = absurd (cc)

-- a line that is written is the line of a test that failed
pub writes_line : (r : Result (Unit {0}) CheckError) (Next : Ending) (text : List ℕ) → refusal_line r ≡ Some text → EndsTesting r Next (Ok Refused) text
writes_line (Ok passed) Next text is = absurd (cc)
writes_line (Err why) Next text is = (refl, by is)
  where
    by : Some (refused_line why) ≡ Some text → text ≡ refused_line why
    by e = cc

-- and it names this test
refused_why : (r : Result (Unit {0}) CheckError) (text : List ℕ) → refusal_line r ≡ Some text → (why : CheckError) × (r ≡ Err why) × (text ≡ refused_line why)
refused_why (Ok passed) text is = absurd (cc)
refused_why (Err why) text is = (why, refl, by is)
  where
    by : Some (refused_line why) ≡ Some text → text ≡ refused_line why
    by e = cc

-- the only other outcome is a sink that failed
pub line_is_no : (text : List ℕ) (old new : Option (List ℕ)) (k k' : ℕ) (end o : Result Conclusion Fault) → end ≡ Ok Refused → Writes end text old new k k' o → (x : Result Conclusion Fault) → (Ok Refused ≡ x → ⊥)
    → (failed Sink ≡ x → ⊥) → o ≡ x → ⊥
line_is_no text old new k k' end o ends (inl done) x refused sink e = refused (sym ends ∙ sym done.0 ∙ e)
line_is_no text old new k k' end o ends (inr cut) x refused sink e = sink (sym cut.0 ∙ e)

module _ (files : Option Folder) (named : ServeFiles) (guard : Guard) (p : Publication) (l l' k k' : ℕ) (holds : IfSome files (Holds named guard p)) (text : List ℕ)
    (line : refusal_line (tested guard p) ≡ Some text) (old new : Option (List ℕ)) (end o : Result Conclusion Fault) (ends : end ≡ Ok Refused) (wrote : Writes end text old new k k' o) where
  w : Writes (Ok Refused) text old new k k' o
  w = subst (λ (e : Result Conclusion Fault). Writes e text old new k k' o) ends wrote

  refuses : (folder : Folder) → Holds named guard p folder → (input : Input) → ends_serving named input folder (Ok Refused) text
  refuses folder h input = behind_tests (λ g q. EndsServe g input q) named guard p folder h (Ok Refused) text (writes_line (tested guard p) (EndsServe guard input p) text line)

  pub line_promised : Promises (ends_serve named) TellsFrames NoDisk files l l' old new k k' o
  line_promised =
      written (ends_serve named) TellsFrames NoDisk files l l' k k' old (EndsTesting (tested guard p) (EndsServeSome guard p))
      (λ e t h. over files (Holds named guard p) (λ folder. ends_serve named folder e t) (λ folder is. behind_tests EndsServeSome named guard p folder is e t h) holds)
      new (Ok Refused) o text tt (writes_line (tested guard p) (EndsServeSome guard p) text line) w

  line_answers : (left : Option (List ℕ)) (folder : Folder) → Holds named guard p folder → AnswersInput named left folder old new o
  line_answers left folder h = let i = some_input left in (i.0, i.1, by w)
    where
      by : Writes (Ok Refused) text old new k k' o → AnswersFrames named (some_input left).0 folder old new o
      by (inl done) = subst (λ (x : Result Conclusion Fault). AnswersFrames named (some_input left).0 folder old new x) (sym done.0) (text, refuses folder h (some_input left).0, done.1)
      by (inr cut) = subst (λ (x : Result Conclusion Fault). AnswersFrames named (some_input left).0 folder old new x) (sym cut.0)
          (0, Refused, text, refuses folder h (first_frames 0 (some_input left).0), cut.1)

  line_leaves : (left : Option (List ℕ)) → LeavesInput left left o
  line_leaves left = by w
    where
      by : Writes (Ok Refused) text old new k k' o → LeavesInput left left o
      by (inl done) = subst (LeavesInput left left) (sym done.0) refl
      by (inr cut) = subst (LeavesInput left left) (sym cut.0) (none_taken left)

  line_takes : IsAsNamed named.guard guard → (left : Option (List ℕ)) → AnswersTaken named files left left old new o
  line_takes fits left = by w
    where
      refused_first : (Wrote : List ℕ → Type 0) → Wrote text → RefusedFirst named files left left Wrote
      refused_first Wrote wrote =
          let r = refused_why (tested guard p) text line in
          record { publication = p; guard = guard; guarding = fits; of_files = holds; why = r.0; fails = r.1; untaken = refl; wrote = subst Wrote r.2 wrote }

      by : Writes (Ok Refused) text old new k k' o → AnswersTaken named files left left old new o
      by (inl done) = subst (AnswersTaken named files left left old new) (sym done.0) (refused_first (Appends old new) done.1)
      by (inr cut) = subst (AnswersTaken named files left left old new) (sym cut.0) (inr (refused_first (AppendsFront old new) cut.1))

  pub line_serves : IsAsNamed named.guard guard → (left : Option (List ℕ)) (s s' : ℕ) → ServesFrames named files left left s s' old new o
  line_serves fits left s s' = record {
    served = over files (Holds named guard p) (λ folder. AnswersInput named left folder old new o) (line_answers left) holds;
    taken = line_takes fits left;
    source = λ e. absurd (line_is_no text old new k k' end o ends wrote (failed Source) (λ x. cc) (λ x. cc) e);
    left = line_leaves left;
    drained = λ e. absurd (line_is_no text old new k k' end o ends wrote (Ok Done) (λ x. cc) (λ x. cc) e);
  }

-- ---- the results of serving for the files

-- a regular end occurs if the source gave nothing more
pub ended_done : (r : Result Conclusion Fault) (Ended : Type 0) → IfOk r (λ verdict. verdict ≡ Done) → (r ≡ Ok Done → Ended) → OnOk r Ended
ended_done (Ok verdict) Ended done ended = ended (ap (λ v. Ok v) done)
ended_done (Err f) Ended done ended = tt

pub done_ended : (r : Result Conclusion Fault) (Ended : Type 0) → OnOk r Ended → r ≡ Ok Done → Ended
done_ended (Ok verdict) Ended ended is = ended
done_ended (Err f) Ended ended is = absurd (cc)

-- the only verdict with which serving ends is that the work is done
pub done_serving : (r : Result (Unit {0}) ServeError) → IfOk (ended_serving r) (λ verdict. verdict ≡ Done)
done_serving (Ok ended) = refl
done_serving (Err errors.FrameTooLong) = tt
done_serving (Err errors.TruncatedFrame) = tt
done_serving (Err errors.TooManyFrames) = tt
done_serving (Err errors.Source) = tt
done_serving (Err errors.Sink) = tt
done_serving (Err (errors.Memory _)) = tt

-- tests that pass write no line
pub no_line : (r : Result (Unit {0}) CheckError) (text : List ℕ) → r ≡ Ok tt → refusal_line r ≡ Some text → ⊥
no_line r text passed is = by (sym (ap refusal_line passed) ∙ is)
  where
    by : refusal_line (Ok tt) ≡ Some text → ⊥
    by e = cc
