pub mod Entries
pub mod Reading
pub mod Account
pub mod Replaying
