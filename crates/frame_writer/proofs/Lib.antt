pub mod Lengths
pub mod Keeping
