pub mod Told
pub mod Fields
pub mod Dimacs
pub mod ArcWalks
pub mod Left
