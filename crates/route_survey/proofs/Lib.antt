pub mod QueryLaws
pub mod TallyLaws
pub mod AnswerLaws
pub mod LineLaws
pub mod PublishLaws
pub mod SurveyLemmas
