pub mod Outcome
pub mod Shapes
pub mod Checks
pub mod Calls
pub mod Reads
pub mod Held
pub mod Cases
