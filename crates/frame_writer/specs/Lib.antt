pub mod Written
pub mod Kept
pub mod Wrote
