pub mod LiveLaws
pub mod WidestLaws
mod BorderLists
mod BorderLaws
mod ScanLaws
