-- The guarantees of a command, by what its files require.
use Rattle.std.proofs.Common.{◌≡◌, ◌≢◌, inl, inr, ℕ, List, [], refl, sym, subst, IfSome}
use Rattle.std.proofs.lemmas.List.{append-nil}
use Rattle.std.specs.declared.option.Option.{Option}
use Rattle.std.specs.declared.option.Option.TheVariants.{None, Some}
use Rattle.std.specs.declared.result.Result.{Result}
use Rattle.std.specs.declared.result.Result.TheVariants.{Ok, Err}
use Rattle.std.specs.Io.KnownBytes.{Appends, Keeps}
use Rattle.road_io.specs.Causes.{Rose}
use Rattle.road_io.specs.Contents.{Folder, AppendsFront}
use Rattle.road_io.specs.Disk.{Narrows}
use Rattle.command_files.specs.Endings.{Ending, EndsReading, Answered, HasUntoldCause, MayEnd, Promises, WhyNot, Writes}
use Rattle.command_files.specs.declared.fault.Fault.{Fault}
use Rattle.command_files.specs.declared.fault.Fault.TheVariants.{Words, Missing, TooLong, TruncatedFrame, FrameTooLong, Library, Source, Sink, Disk, Memory, UnknownNode, NoRoute, TooManyFrames, MirrorLost}
use Rattle.command_files.specs.declared.ended.Conclusion.{Conclusion}
use Rattle.command_files.specs.declared.ended.Conclusion.TheVariants.{Done}
use Rattle.octet_text.specs.Want.{no_memory}

-- a run that ended with a fault
abbrev pub failed : Fault → Result Conclusion Fault
failed f = Err f

-- the files require this outcome with this text
abbrev pub CallsFor : (Folder → Ending) → Option Folder → Ending
CallsFor Ends files o text = IfSome files (λ folder. Ends folder o text)

-- a fact that holds for each folder holds for a library that may state its files
pub over : (files : Option Folder) (P Q : Folder → Type 0) → ((folder : Folder) → P folder → Q folder) → IfSome files P → IfSome files Q
over None P Q f h = tt
over (Some folder) P Q f h = f folder h

-- the same, for two facts
pub over_both : (files : Option Folder) (P Q R : Folder → Type 0) → ((folder : Folder) → P folder → Q folder → R folder) → IfSome files P → IfSome files Q → IfSome files R
over_both None P Q R f h k = tt
over_both (Some folder) P Q R f h k = f folder h k

-- and for all libraries
pub over_any : (files : Option Folder) (P : Folder → Type 0) → ((folder : Folder) → P folder) → IfSome files P
over_any None P f = tt
over_any (Some folder) P f = f folder

-- a fact about the files stated before holds for the files that are still stated
pub moved : (before files : Option Folder) (P : Folder → Type 0) → Narrows before files → IfSome before P → IfSome files P
moved before None P narrows h = tt
moved before (Some folder) P narrows h = subst (λ (f : Option Folder). IfSome f P) (narrows folder refl) h

-- the stated files only stay or are no longer stated
pub narrows_on : (first second third : Option Folder) → Narrows first second → Narrows second third → Narrows first third
narrows_on first second third once more = λ folder is. once folder (more folder is)

-- a file that was read, and what follows
pub reads : {X : Type 0} (read : Result X Fault) (x : X) (Next : X → Ending) (o : Result Conclusion Fault) (text : List ℕ) → read ≡ Ok x → Next x o text → EndsReading read Next o text
reads read x Next o text is h = subst (λ r. EndsReading r Next o text) (sym is) h

-- the same, in the other direction
pub read_as : {X : Type 0} (read : Result X Fault) (x : X) (Next : X → Ending) (o : Result Conclusion Fault) (text : List ℕ) → read ≡ Ok x → EndsReading read Next o text → Next x o text
read_as read x Next o text is h = subst (λ r. EndsReading r Next o text) is h

pub keeps_same : (o : Option (List ℕ)) → Keeps o o
keeps_same None = tt
keeps_same (Some xs) = refl

-- nothing is appended to octets that stay unchanged
pub appends_none : (o : Option (List ℕ)) → Appends o o []
appends_none None = tt
appends_none (Some xs) = sym (append-nil xs)

-- no file was reported as missing or too long
pub no_untold : (files : Option Folder) (l l' : ℕ) (o : Result Conclusion Fault) → o ≢ Err Missing → o ≢ Err TooLong → HasUntoldCause files l l' o
no_untold None l l' o m t = record { missing = λ e. absurd (m e); too_long = λ e. absurd (t e) }
no_untold (Some folder) l l' o m t = record { missing = tt; too_long = tt }

module _ (Ends : Folder → Ending) (Tells : Fault → Type 0) (DiskFailed : Type 0) (files : Option Folder) (l l' k k' : ℕ) (old : Option (List ℕ)) where
  nothing : IfSome files (λ folder. Unit {0})
  nothing = over_any files (λ folder. Unit {0}) (λ folder. tt)

  -- out of memory
  pub out_of_memory : Promises Ends Tells DiskFailed files l l' old old k k' (Err (Memory no_memory))
  out_of_memory = record {
    answered = nothing;
    untold = no_untold files l l' (Err (Memory no_memory)) (λ e. cc) (λ e. cc);
    silent = λ g e n t. keeps_same old;
    library = λ e. absurd (cc);
    sink = λ e. absurd (cc);
    disk = λ e. absurd (cc);
    source = λ e. absurd (cc);
    mirror = λ e. absurd (cc);
    words = λ e. cc;
  }

  module _ (E : Ending) (lift : (o : Result Conclusion Fault) (text : List ℕ) → E o text → CallsFor Ends files o text) where
    put : (f : Fault) → WhyNot DiskFailed E f → IfSome files (λ folder. Answered (Ends folder) old old (Err f))
    put (Memory _) h = nothing
    put Disk h = nothing
    put Words h = absurd h
    put Missing h = absurd h
    put TooLong h = absurd h
    put Library h = absurd h
    put Source h = absurd h
    put Sink h = absurd h
    put MirrorLost h = absurd h
    put (UnknownNode id) h =
        over files (λ folder. Ends folder (Err (UnknownNode id)) []) (λ folder. Answered (Ends folder) old old (Err (UnknownNode id))) (λ folder e. ([], e, appends_none old)) (lift (Err (UnknownNode id)) [] h)
    put NoRoute h =
        over files (λ folder. Ends folder (Err NoRoute) []) (λ folder. Answered (Ends folder) old old (Err NoRoute)) (λ folder e. ([], e, appends_none old)) (lift (Err NoRoute) [] h)
    put TruncatedFrame h =
        over files (λ folder. Ends folder (Err TruncatedFrame) []) (λ folder. Answered (Ends folder) old old (Err TruncatedFrame)) (λ folder e. ([], e, appends_none old)) (lift (Err TruncatedFrame) [] h)
    put FrameTooLong h =
        over files (λ folder. Ends folder (Err FrameTooLong) []) (λ folder. Answered (Ends folder) old old (Err FrameTooLong)) (λ folder e. ([], e, appends_none old)) (lift (Err FrameTooLong) [] h)
    put TooManyFrames h =
        over files (λ folder. Ends folder (Err TooManyFrames) []) (λ folder. Answered (Ends folder) old old (Err TooManyFrames)) (λ folder e. ([], e, appends_none old)) (lift (Err TooManyFrames) [] h)
    put f h = lift (Err f) [] h

    -- work that was not done
    pub refused : (f : Fault) → WhyNot DiskFailed E f → Promises Ends Tells DiskFailed files l l' old old k k' (Err f)
    refused f h = record {
      answered = put f h;
      untold = no_untold files l l' (Err f) (λ e. no Missing e) (λ e. no TooLong e);
      silent = λ g e n t. keeps_same old;
      library = λ e. absurd (no Library e);
      sink = λ e. absurd (no Sink e);
      disk = λ e. no Disk e;
      source = λ e. absurd (no Source e);
      mirror = λ e. absurd (no MirrorLost e);
      words = λ e. no Words e;
    }
      where
        same : (g : Fault) → failed f ≡ failed g → f ≡ g
        same g e = cc

        no : (g : Fault) → failed f ≡ failed g → WhyNot DiskFailed E g
        no g e = subst (λ x. WhyNot DiskFailed E x) (same g e) h

    module _ (new : Option (List ℕ)) where
      -- a text that was written
      done : (v : Conclusion) (text : List ℕ) → E (Ok v) text → Appends old new text → Promises Ends Tells DiskFailed files l l' old new k k' (Ok v)
      done v text h app = record {
        answered = over files (λ folder. Ends folder (Ok v) text) (λ folder. Answered (Ends folder) old new (Ok v)) (λ folder e. (text, e, app)) (lift (Ok v) text h);
        untold = no_untold files l l' (Ok v) (λ e. cc) (λ e. cc);
        silent = λ f e n t. absurd (cc);
        library = λ e. absurd (cc);
        sink = λ e. absurd (cc);
        disk = λ e. absurd (cc);
        source = λ e. absurd (cc);
        mirror = λ e. absurd (cc);
        words = λ e. cc;
      }

      -- a text of which a prefix was written
      front : (o : Result Conclusion Fault) (text : List ℕ) → E o text → AppendsFront old new text → Rose k k' → Promises Ends Tells DiskFailed files l l' old new k k' (Err Sink)
      front o text h app rose = record {
        answered = over files (λ folder. Ends folder o text) (λ folder. Answered (Ends folder) old new (Err Sink)) (λ folder e. (o, text, e, app)) (lift o text h);
        untold = no_untold files l l' (Err Sink) (λ e. cc) (λ e. cc);
        silent = λ f e n t. absurd (n (is_sink f e));
        library = λ e. absurd (cc);
        sink = λ e. rose;
        disk = λ e. absurd (cc);
        source = λ e. absurd (cc);
        mirror = λ e. absurd (cc);
        words = λ e. cc;
      }
        where
          is_sink : (f : Fault) → failed Sink ≡ failed f → f ≡ Sink
          is_sink f e = cc

      -- a fault that is reported to a client
      told : (f : Fault) (text : List ℕ) → ((folder : Folder) → Ends folder (Err f) text → Answered (Ends folder) old new (Err f)) → E (Err f) text → Tells f
          → f ≢ Missing → f ≢ TooLong → f ≢ Library → f ≢ Sink → f ≢ Disk → f ≢ Words → Promises Ends Tells DiskFailed files l l' old new k k' (Err f)
      told f text put h tells missing long library sink disk words = record {
        answered = over files (λ folder. Ends folder (Err f) text) (λ folder. Answered (Ends folder) old new (Err f)) put (lift (Err f) text h);
        untold = no_untold files l l' (Err f) (λ e. missing (same Missing e)) (λ e. long (same TooLong e));
        silent = λ g e n t. absurd (t (subst (λ x. Tells x) (same g e) tells));
        library = λ e. absurd (library (same Library e));
        sink = λ e. absurd (sink (same Sink e));
        disk = λ e. absurd (disk (same Disk e));
        source = λ e. subst (λ x. Tells x) (same Source e) tells;
        mirror = λ e. subst (λ x. Tells x) (same MirrorLost e) tells;
        words = λ e. words (same Words e);
      }
        where
          same : (g : Fault) → failed f ≡ failed g → f ≡ g
          same g e = cc

      -- a text that was written although a mirror was lost
      pub lost : (text : List ℕ) → E (Ok Done) text → Tells MirrorLost → Appends old new text → Promises Ends Tells DiskFailed files l l' old new k k' (Err MirrorLost)
      lost text h tells app = record {
        answered = over files (λ folder. Ends folder (Ok Done) text) (λ folder. Answered (Ends folder) old new (Err MirrorLost)) (λ folder e. (text, e, app)) (lift (Ok Done) text h);
        untold = no_untold files l l' (Err MirrorLost) (λ e. cc) (λ e. cc);
        silent = λ f e n t. absurd (t (subst (λ x. Tells x) (is_lost f e) tells));
        library = λ e. absurd (cc);
        sink = λ e. absurd (cc);
        disk = λ e. absurd (cc);
        source = λ e. absurd (cc);
        mirror = λ e. tells;
        words = λ e. cc;
      }
        where
          is_lost : (f : Fault) → failed MirrorLost ≡ failed f → MirrorLost ≡ f
          is_lost f e = cc

      whole : (o : Result Conclusion Fault) (text : List ℕ) → MayEnd Tells o → E o text → Appends old new text → Promises Ends Tells DiskFailed files l l' old new k k' o
      whole (Ok v) text may h app = done v text h app
      whole (Err (UnknownNode id)) text may h app = told (UnknownNode id) text (λ folder e. (text, e, app)) h may (λ x. cc) (λ x. cc) (λ x. cc) (λ x. cc) (λ x. cc) (λ x. cc)
      whole (Err NoRoute) text may h app = told NoRoute text (λ folder e. (text, e, app)) h may (λ x. cc) (λ x. cc) (λ x. cc) (λ x. cc) (λ x. cc) (λ x. cc)
      whole (Err TruncatedFrame) text may h app = told TruncatedFrame text (λ folder e. (text, e, app)) h may (λ x. cc) (λ x. cc) (λ x. cc) (λ x. cc) (λ x. cc) (λ x. cc)
      whole (Err FrameTooLong) text may h app = told FrameTooLong text (λ folder e. (text, e, app)) h may (λ x. cc) (λ x. cc) (λ x. cc) (λ x. cc) (λ x. cc) (λ x. cc)
      whole (Err TooManyFrames) text may h app = told TooManyFrames text (λ folder e. (text, e, app)) h may (λ x. cc) (λ x. cc) (λ x. cc) (λ x. cc) (λ x. cc) (λ x. cc)
      whole (Err Source) text may h app = told Source text (λ folder e. (text, e, app)) h may (λ x. cc) (λ x. cc) (λ x. cc) (λ x. cc) (λ x. cc) (λ x. cc)
      whole (Err f) text may h app = absurd may

      -- the output, whether it was written or not
      pub written : (end outcome : Result Conclusion Fault) (text : List ℕ) → MayEnd Tells end → E end text → Writes end text old new k k' outcome → Promises Ends Tells DiskFailed files l l' old new k k' outcome
      written end outcome text may h (inl w) = subst (λ (o : Result Conclusion Fault). Promises Ends Tells DiskFailed files l l' old new k k' o) (sym w.0) (whole end text may h w.1)
      written end outcome text may h (inr w) = subst (λ (o : Result Conclusion Fault). Promises Ends Tells DiskFailed files l l' old new k k' o) (sym w.0) (front end text h w.1 w.2)

      -- a line that was written when the work was done
      pub written_done : (v : Conclusion) (outcome : Result Conclusion Fault) (text line : List ℕ) → text ≡ line → E (Ok v) line → Writes (Ok v) text old new k k' outcome → Promises Ends Tells DiskFailed files l l' old new k k' outcome
      written_done v outcome text line same h w = written (Ok v) outcome line tt h (subst (λ t. Writes (Ok v) t old new k k' outcome) same w)

-- the reason why work was not done, as the reason for other work
pub why_map : (A B : Type 0) (E F : Ending) → (A → B) → ((o : Result Conclusion Fault) (text : List ℕ) → E o text → F o text) → (f : Fault) → WhyNot A E f → WhyNot B F f
why_map A B E F disk ends (Memory _) h = tt
why_map A B E F disk ends Disk h = disk h
why_map A B E F disk ends Words h = absurd h
why_map A B E F disk ends Missing h = absurd h
why_map A B E F disk ends TooLong h = absurd h
why_map A B E F disk ends Library h = absurd h
why_map A B E F disk ends Source h = absurd h
why_map A B E F disk ends Sink h = absurd h
why_map A B E F disk ends MirrorLost h = absurd h
why_map A B E F disk ends f h = ends (Err f) [] h

-- the guarantees of commands without a disk also hold beside any disk
pub beside_disk : (Ends : Folder → Ending) (Tells : Fault → Type 0) (DiskFailed : Type 0) (files : Option Folder) (l l' k k' : ℕ) (old new : Option (List ℕ)) (o : Result Conclusion Fault)
    → Promises Ends Tells ⊥ files l l' old new k k' o → Promises Ends Tells DiskFailed files l l' old new k k' o
beside_disk Ends Tells DiskFailed files l l' k k' old new o h = record {
  answered = h.answered;
  untold = h.untold;
  silent = h.silent;
  library = h.library;
  sink = h.sink;
  disk = λ e. absurd (h.disk e);
  source = h.source;
  mirror = h.mirror;
  words = h.words;
}
