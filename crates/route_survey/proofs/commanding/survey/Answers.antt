use Rattle.std.proofs.Common.{refl}
use Rattle.route_survey.proofs.SurveyLemmas.{surveyed, not_surveyed, memory_short}
use Rattle.route_survey.proofs.commanding.survey.Goals as goal

pub returns-in-Ok-clause-promised : goal.returns-in-Ok-clause-promised
returns-in-Ok-clause-promised g c =
    surveyed c.args.asked.width c.args.asked.seed c.args.asked.method c.args.asked.queries _ _ _ _ _ _ c.in-Ok.line.items c.deref.ensures.value c.in-Ok.ensures.line c.write_text.ensures.writes

pub returns-in-Err-Plan-clause-promised : goal.returns-in-Err-Plan-clause-promised
returns-in-Err-Plan-clause-promised g c =
    not_surveyed c.args.asked.width c.args.asked.seed c.args.asked.method c.args.asked.queries _ _ _ c.in-Err-Plan.fault (rw c.in-Err-Plan.field-0-is at c.in-Err-Plan.ensures.refused, refl)

pub returns-in-Err-Memory-clause-promised : goal.returns-in-Err-Memory-clause-promised
returns-in-Err-Memory-clause-promised g c = memory_short c.args.asked.width c.args.asked.seed c.args.asked.method c.args.asked.queries _ _ _
