pub mod Of
pub mod Sameness
pub mod Sheets
pub mod Statuses
