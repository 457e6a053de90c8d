pub mod Proving
pub mod Guarding
pub mod Serving
pub mod ServingEnds
pub mod NearReaching
