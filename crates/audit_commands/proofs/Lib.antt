pub mod Steps
pub mod OneAudit
pub mod AuditLemmas
pub mod HeadlineLemmas
pub mod NearestHeadline
mod Worked
pub mod SlotLemmas
pub mod ReduceLemmas
pub mod OneReduce
mod ReduceWorked
