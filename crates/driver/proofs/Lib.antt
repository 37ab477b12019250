pub mod Steps
pub mod Framing
pub mod Judging
pub mod Following
pub mod Parts
