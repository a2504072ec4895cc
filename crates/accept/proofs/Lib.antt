mod Entries
pub mod Growing
pub mod Once
mod Reserving
mod Stepping
mod Surveying
mod Tallying
pub mod Walking
