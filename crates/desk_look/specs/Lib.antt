pub mod Forgeries
pub mod Left
pub mod Looking
pub mod Looks
