pub mod Checks
pub mod Drafts
pub mod Keys
pub mod Naming
pub mod Numbers
pub mod Outcomes
pub mod Steps
pub mod Tallies
