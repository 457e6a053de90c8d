pub mod NameLemmas
pub mod OwnerLemmas
pub mod PublishLemmas
pub mod OneOwner
pub mod SuccessionLemmas
pub mod StandingLemmas
pub mod ReleaseLaws
mod Worked
pub mod Answered
