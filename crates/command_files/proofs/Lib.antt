pub mod Asked
pub mod Written
pub mod OneEnd
pub mod OneMap
pub mod Ends
mod Worked
