pub mod Cuts
pub mod Twin
pub mod Counting
pub mod Standing
pub mod Laws
