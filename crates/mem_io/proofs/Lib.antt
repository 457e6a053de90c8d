pub mod JournalSteps
pub mod FillLaws
