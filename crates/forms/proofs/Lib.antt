mod Ending
pub mod Parsing
mod Saying
pub mod Steps
pub mod Wording
