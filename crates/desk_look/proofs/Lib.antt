pub mod LeftLemmas
pub mod Linked
mod Worked
