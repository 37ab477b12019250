pub mod Refusals
pub mod Parts
pub mod Chosen
pub mod Samples
pub mod Instructions
pub mod Inputs
pub mod Lists
