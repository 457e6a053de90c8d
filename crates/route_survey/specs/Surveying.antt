-- The output of `survey`.
use Rattle.std.specs.Prelude.{◌≡◌, ℕ, List, []}
use Rattle.std.specs.declared.option.Option.TheVariants.{Some}
use Rattle.std.specs.declared.result.Result.TheVariants.{Ok, Err}
use Rattle.road_reader.specs.Grid.{grid_of}
use Rattle.book_model.specs.Books.{kind_of, plan_fault}
use Rattle.route_survey.specs.Asked.{survey_queries, survey_settings}
use Rattle.route_survey.specs.Surveys.{IsSurveyLine}
use Rattle.command_files.specs.Endings.{Ending}
use Rattle.command_files.specs.declared.fault.Fault.TheVariants.{Plan}
use Rattle.command_files.specs.declared.ended.Conclusion.TheVariants.{Done}

-- `survey` over the grid of a width and a seed: the line of this many random queries, or the first reason why the
-- grid has no book under the method; it uses no file and not the owner's disk
abbrev pub EndsSurvey : ℕ → ℕ → ℕ → ℕ → Ending
EndsSurvey width seed method queries (Ok Done) text =
    IsSurveyLine (grid_of width seed) (survey_settings method seed)
    (survey_queries width seed queries) text
EndsSurvey width seed method queries (Err (Plan e)) text =
    (plan_fault (kind_of method) (grid_of width seed) (survey_settings method seed) ≡ Some e) ×
    (text ≡ [])
EndsSurvey width seed method queries outcome text = ⊥
