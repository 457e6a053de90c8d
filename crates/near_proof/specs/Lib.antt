pub mod NearAcceptance
pub mod NearLaws
pub mod Right
pub mod Acceptance
pub mod Honest
pub mod DeskKeys
pub mod Served
