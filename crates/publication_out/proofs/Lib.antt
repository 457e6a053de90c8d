pub mod SendLemmas
pub mod AheadLemmas
