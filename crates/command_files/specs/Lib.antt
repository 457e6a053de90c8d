pub mod Outcomes
pub mod Reading
pub mod HexFiles
pub mod TwoEnds
pub mod Endings
pub mod Exact
pub mod Asking
pub mod Spared
