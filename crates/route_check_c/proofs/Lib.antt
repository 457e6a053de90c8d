pub mod LeafLemmas
pub mod RoomSteps
mod Worked
mod Refusals
