pub mod Entering
pub mod Accounts
pub mod Replays
