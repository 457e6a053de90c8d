pub mod PlainBooks
pub mod LdmBooks
pub mod Grids
pub mod HypBooks
pub mod AnyBooks
