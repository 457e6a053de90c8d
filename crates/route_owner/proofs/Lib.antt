pub mod Refusing
pub mod Sealing
pub mod Standing
mod Worked
