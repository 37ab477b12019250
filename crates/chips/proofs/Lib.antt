pub mod Lengths
pub mod Midways
pub mod Within
pub mod Small
pub mod Editions
