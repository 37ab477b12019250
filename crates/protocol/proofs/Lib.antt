pub mod High
pub mod Passed
pub mod Table
pub mod Adding
pub mod Spans
