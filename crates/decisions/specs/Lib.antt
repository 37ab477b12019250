pub mod Decided
pub mod Reader
pub mod Laws
