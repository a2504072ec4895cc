pub mod Files
pub mod Kinds
pub mod Lines
pub mod Names
pub mod Places
pub mod Runs
pub mod Words
