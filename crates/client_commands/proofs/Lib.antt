pub mod CheckFiles
pub mod OneCheck
pub mod OneNearCheck
