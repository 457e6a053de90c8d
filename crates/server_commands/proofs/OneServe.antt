-- If no outside object failed, `serve` ends as its files and its input require.
use Rattle.std.proofs.Common.{◌≡◌, ◌≢◌, ℕ, List, [], refl, sym, subst, ◌∙◌, IfSome}
use Rattle.std.specs.declared.option.Option.{Option}
use Rattle.std.specs.declared.option.Option.TheVariants.{None, Some}
use Rattle.std.specs.declared.result.Result.{Result}
use Rattle.std.specs.declared.result.Result.TheVariants.{Ok, Err}
use Rattle.road_io.specs.Causes.{Rose}
use Rattle.road_io.specs.Contents.{Folder}
use Rattle.route_service.specs.Inputs.{Input, split}
use Rattle.route_client.specs.declared.errors.CheckError.{CheckError}
use Rattle.command_files.specs.Reading.{publication_at}
use Rattle.command_files.specs.Endings.{Ending, EndsReading}
use Rattle.server_commands.specs.Guarding.{ServeFiles, guard_at, tested, EndsTesting}
use Rattle.command_files.specs.Exact.{NoneFailed, IsExact}
use Rattle.command_files.specs.declared.fault.Fault.{Fault}
use Rattle.command_files.specs.declared.fault.Fault.TheVariants.{TruncatedFrame, FrameTooLong, Library, Source, Sink, Memory, TooManyFrames}
use Rattle.command_files.specs.declared.ended.Conclusion.{Conclusion}
use Rattle.command_files.proofs.OneEnd.{HasOneEnd, one_reading}
use Rattle.command_books.proofs.OneBuilding.{OneMaking, one_installing}
use Rattle.server_commands.specs.Serving.{EndsFrames, EndsServe, ends_serving, AnswersFrames, ServesFrames, most_octets, most_frames}
use Rattle.octet_text.specs.Want.{no_memory}

-- tests have one end if the rest of the command has one
one_testing : (r : Result (Unit {0}) CheckError) (Next : Ending) → HasOneEnd Next → HasOneEnd (EndsTesting r Next)
one_testing (Ok passed) Next one o p s t h k = one o p s t h k
one_testing (Err why) Next one o p s t h k = h.0 ∙ sym k.0

-- over its files and an input, `serve` has one end
only_serving : OneMaking → (name : ServeFiles) (input : Input) (folder : Folder) → HasOneEnd (ends_serving name input folder)
only_serving makings name input folder =
    one_reading (publication_at folder name.publication) (λ b. EndsReading (guard_at folder name.guard) (λ guard. EndsTesting (tested guard b) (EndsServe guard input b)))
    (λ b. one_reading (guard_at folder name.guard) (λ guard. EndsTesting (tested guard b) (EndsServe guard input b))
    (λ guard. one_testing (tested guard b) (EndsServe guard input b) (λ o p s t. one_installing makings b (EndsFrames guard input b) o p s t (λ x y. x.end ∙ sym y.end))))

called : (name : ServeFiles) (input : Input) (folder : Folder) (old new : Option (List ℕ)) (o : Result Conclusion Fault) → AnswersFrames name input folder old new o
    → (o ≡ Err Library → ⊥) → (o ≡ Err Source → ⊥) → (o ≡ Err Sink → ⊥) → o ≢ Err (Memory no_memory) → (text : List ℕ) × ends_serving name input folder o text
called name input folder old new (Ok verdict) a l s k m = (a.0, a.1)
called name input folder old new (Err FrameTooLong) a l s k m = (a.0, a.1)
called name input folder old new (Err TruncatedFrame) a l s k m = (a.0, a.1)
called name input folder old new (Err TooManyFrames) a l s k m = (a.0, a.1)
called name input folder old new (Err Source) a l s k m = absurd (s refl)
called name input folder old new (Err Sink) a l s k m = absurd (k refl)
called name input folder old new (Err (Memory _)) a l s k m = absurd (m refl)
called name input folder old new (Err Library) a l s k m = absurd (l refl)
called name input folder old new (Err fault) a l s k m = ([], a.0)

exact_input : OneMaking → (name : ServeFiles) (input : Input) (folder : Folder) (old new : Option (List ℕ)) (o : Result Conclusion Fault) → AnswersFrames name input folder old new o
    → (o ≡ Err Library → ⊥) → (o ≡ Err Source → ⊥) → (o ≡ Err Sink → ⊥) → IsExact (ends_serving name input folder) o
exact_input makings name input folder old new o a l s k = record {
  called_for = called name input folder old new o a l s k;
  only_one = λ other text full h. let mine = called name input folder old new o a l s k full in only_serving makings name input folder o other mine.0 text mine.1 h;
}

-- a result of serving is exact if no outside object failed
pub exact_serve : OneMaking → (name : ServeFiles) (files : Option Folder) (left rest old new : Option (List ℕ)) (o : Result Conclusion Fault) (l l' s s' k k' d d' : ℕ)
    → ServesFrames name files left rest s s' old new o → (o ≡ Err Library → Rose l l') → (o ≡ Err Sink → Rose k k')
    → ¬ Rose s s' → NoneFailed l l' k k' d d' → IfSome files (λ folder. IfSome left (λ text. IsExact (ends_serving name (split most_octets most_frames text) folder) o))
exact_serve makings name None left rest old new o l l' s s' k k' d d' a lc kc none n = tt
exact_serve makings name (Some folder) None rest old new o l l' s s' k k' d d' a lc kc none n = tt
exact_serve makings name (Some folder) (Some text) rest old new o l l' s s' k k' d d' a lc kc none n =
    exact_input makings name (split most_octets most_frames text) folder old new o (subst (λ input. AnswersFrames name input folder old new o) a.served.1 a.served.2)
    (λ e. n.library_stays (lc e)) (λ e. none (a.source e)) (λ e. n.sink_stays (kc e))
