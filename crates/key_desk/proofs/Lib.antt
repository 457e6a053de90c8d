pub mod Blanks
pub mod CallLemmas
pub mod Counts
pub mod Finding
mod FreeSlots
pub mod KeptKeys
pub mod LinkLemmas
pub mod Puts
pub mod Raises
pub mod Raising
pub mod RaisingSteps
pub mod ReadFits
pub mod ReadGood
pub mod ReadMore
pub mod Refusals
pub mod RunLaws
pub mod Runs
pub mod SlotTexts
pub mod Spending
pub mod Standing
pub mod Steps
pub mod Successors
pub mod Tickets
pub mod Unspent
mod Worked
