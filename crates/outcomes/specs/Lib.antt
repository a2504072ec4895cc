pub mod Files
pub mod Lines
pub mod Words
