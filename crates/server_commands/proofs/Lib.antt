pub mod ProveLemmas
pub mod OneProve
pub mod GuardFiles
pub mod ServeCommand
pub mod OneServe
pub mod NearReachLemmas
pub mod OneNearReach
