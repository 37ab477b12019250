pub mod Few
pub mod Calls
pub mod Whole
pub mod Twins
pub mod Counts
pub mod Uncut
pub mod Ends
