pub mod Form
pub mod Steps
