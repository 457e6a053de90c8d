pub mod HonestLemmas
pub mod TakenLemmas
pub mod RunLemmas
pub mod SyncLemmas
pub mod RightLemmas
pub mod LifeLaws
pub mod OrderLaws
pub mod BehindLaws
mod OrderWorked
pub mod LifeWorked
pub mod CompleteLemmas
pub mod WorkLemmas
mod RunWorked
mod CommandsWorked
mod AcceptingWorked
pub mod WorkedObjects
pub mod WorkedRuns
pub mod WholeRunsWorked
mod ServeRunsWorked
mod PublishRunsWorked
mod HonestRunsWorked
pub mod StepsWorked
mod StandWorked
mod OrderlyWorked
mod LinesWorked
mod HonestWorked
mod FormsWorked
