-- How `survey` ends, and that it has only one end.
use Rattle.std.proofs.Common.{◌≡◌, ℕ, List, [], refl, ap, IfSome}
use Rattle.std.specs.declared.option.Option.{Option}
use Rattle.std.specs.declared.option.Option.TheVariants.{None, Some}
use Rattle.std.specs.declared.result.Result.{Result}
use Rattle.std.specs.declared.result.Result.TheVariants.{Ok, Err}
use Rattle.road_io.specs.Contents.{Folder}
use Rattle.book_model.specs.declared.settings.PlanError.{PlanError}
use Rattle.command_files.specs.Endings.{NoDisk, PromisesWithoutFiles, TellsNone, WhyNot, Writes}
use Rattle.command_files.proofs.OneEnd.{HasOneEnd}
use Rattle.command_files.specs.declared.fault.Fault.{Fault}
use Rattle.command_files.specs.declared.fault.Fault.TheVariants.{Memory, Plan}
use Rattle.command_files.specs.declared.ended.Conclusion.{Conclusion}
use Rattle.command_files.specs.declared.ended.Conclusion.TheVariants.{Done}
use Rattle.command_files.proofs.Written.{CallsFor, over_any, out_of_memory, refused, written_done}
use Rattle.route_survey.specs.Surveying.{EndsSurvey}
use Rattle.octet_text.specs.Want.{no_memory}

allowed_once : (o : Option PlanError) (e : PlanError) → o ≡ None → o ≡ Some e → ⊥
allowed_once o e none some = cc

one_fault : (o : Option PlanError) (e f : PlanError) → o ≡ Some e → o ≡ Some f → e ≡ f
one_fault o e f one other = cc

-- a survey has one end
one_survey : (width seed method queries : ℕ) (o p : Result Conclusion Fault) (s t : List ℕ) → EndsSurvey width seed method queries o s → EndsSurvey width seed method queries p t → o ≡ p
one_survey width seed method queries (Ok Done) (Ok Done) s t h k = refl
one_survey width seed method queries (Ok Done) (Err (Plan f)) s t h k = absurd (allowed_once _ f h.is_made.has_header.allowed k.0)
one_survey width seed method queries (Ok Done) p s t h k = absurd k
one_survey width seed method queries (Err (Plan e)) (Ok Done) s t h k = absurd (allowed_once _ e k.is_made.has_header.allowed h.0)
one_survey width seed method queries (Err (Plan e)) (Err (Plan f)) s t h k = ap (λ x. Err (Plan x)) (one_fault _ e f h.0 k.0)
one_survey width seed method queries (Err (Plan e)) p s t h k = absurd k
one_survey width seed method queries o p s t h k = absurd h

pub only_survey : (width seed method queries : ℕ) → HasOneEnd (EndsSurvey width seed method queries)
only_survey width seed method queries o p s t = one_survey width seed method queries o p s t

module _ (width seed method queries k k' : ℕ) (old : Option (List ℕ)) where
  any : (files : Option Folder) (o : Result Conclusion Fault) (text : List ℕ) → EndsSurvey width seed method queries o text → CallsFor (λ folder. EndsSurvey width seed method queries) files o text
  any files o text h = over_any files (λ folder. EndsSurvey width seed method queries o text) (λ folder. h)

  -- a line that was returned
  pub surveyed : (new : Option (List ℕ)) (o : Result Conclusion Fault) (text line : List ℕ) → text ≡ line → EndsSurvey width seed method queries (Ok Done) line → Writes (Ok Done) text old new k k' o
      → PromisesWithoutFiles (EndsSurvey width seed method queries) NoDisk old new k k' o
  surveyed new o text line same is w files faults =
      written_done (λ folder. EndsSurvey width seed method queries) TellsNone NoDisk files faults faults k k' old (EndsSurvey width seed method queries) (any files) new Done o text line same is w

  -- a grid without a book
  pub not_surveyed : (e : PlanError) → EndsSurvey width seed method queries (Err (Plan e)) [] → PromisesWithoutFiles (EndsSurvey width seed method queries) NoDisk old old k k' (Err (Plan e))
  not_surveyed e h files faults =
      refused (λ folder. EndsSurvey width seed method queries) TellsNone NoDisk files faults faults k k' old (EndsSurvey width seed method queries) (any files) (Plan e) h

  -- out of memory
  pub memory_short : PromisesWithoutFiles (EndsSurvey width seed method queries) NoDisk old old k k' (Err (Memory no_memory))
  memory_short files faults = out_of_memory (λ folder. EndsSurvey width seed method queries) TellsNone NoDisk files faults faults k k' old
