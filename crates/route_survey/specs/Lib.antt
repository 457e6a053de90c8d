pub mod Asked
pub mod Surveys
pub mod Tallies
pub mod Surveying
