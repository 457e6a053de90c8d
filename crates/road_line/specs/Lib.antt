pub mod DeskLine
pub mod EvidenceLine
pub mod RouteLine
pub mod VerdictLine
pub mod WithinLine
