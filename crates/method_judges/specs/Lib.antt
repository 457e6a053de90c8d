pub mod Lent
pub mod Live
pub mod Scans
pub mod Widest
