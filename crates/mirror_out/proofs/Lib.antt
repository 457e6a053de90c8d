pub mod Promising
pub mod Spreading
pub mod Parting
mod Worked
