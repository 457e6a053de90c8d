pub mod Auditing
pub mod Headline
pub mod Nearest
pub mod Owners
pub mod ReduceLine
pub mod Reducing
pub mod Unreleased
