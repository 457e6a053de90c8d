pub mod Texts
pub mod Ways
pub mod Released
pub mod Meetings
pub mod Comparing
pub mod Reduction
