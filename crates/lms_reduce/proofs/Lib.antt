pub mod WayLemmas
pub mod MeetingLemmas
pub mod TextLemmas
pub mod DigitLemmas
pub mod GoodLemmas
pub mod RootLemmas
pub mod ReduceLemmas
mod Worked
