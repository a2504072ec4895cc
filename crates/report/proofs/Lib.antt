mod Finding
mod Printing
mod Settling
pub mod Walking
