pub mod Signatures
pub mod Nodes
pub mod Links
pub mod Chains
pub mod ChainFiles
