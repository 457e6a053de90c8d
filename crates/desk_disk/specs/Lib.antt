pub mod Looks
pub mod Opening
pub mod Systems
pub mod States
