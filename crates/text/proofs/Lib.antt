mod Cutting
mod Placing
mod Reading
mod Searching
pub mod Spelling
mod Tables
pub mod Tokens
