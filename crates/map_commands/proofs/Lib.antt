pub mod MapLemmas
pub mod OneMapEnd
pub mod RootLemmas
