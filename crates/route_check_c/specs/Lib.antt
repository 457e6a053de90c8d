pub mod Codes
pub mod Placing
pub mod Telling
pub mod Listing
