pub mod ItemWalks
pub mod Judgement
pub mod Apart
pub mod SharedTests
pub mod ById
