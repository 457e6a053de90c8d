pub mod OtsLemmas
pub mod PlaceLemmas
