pub mod Builds
pub mod Compiles
pub mod Events
pub mod Gains
pub mod Of
