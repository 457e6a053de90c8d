pub mod RouteLine
pub mod RootLine
pub mod DimacsFiles
