pub mod Areas
pub mod CallLives
pub mod Images
pub mod Looks
pub mod Sights
pub mod Slots
pub mod Texts
pub mod Tidy
