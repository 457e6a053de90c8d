pub mod Uses
pub mod Shipping
pub mod Guarding
pub mod OwnerKey
pub mod Telling
pub mod CallSteps
