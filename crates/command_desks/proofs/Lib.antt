pub mod Disks
pub mod Openings
