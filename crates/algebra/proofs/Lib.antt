mod Bits
pub mod Members
pub mod Counts
mod Trees
mod Views
mod Laws
