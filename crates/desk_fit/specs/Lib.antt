pub mod Fits
pub mod Signers
