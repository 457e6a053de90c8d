pub mod Folded
pub mod Authentic
pub mod Judged
pub mod Signed
pub mod FindingLemmas
pub mod RouteLemmas
mod Worked
pub mod NearSigned
pub mod NearSound
pub mod NearJudged
pub mod RadiusLemmas
