pub mod Entries
pub mod Forms
pub mod Items
pub mod Reads
pub mod Tails
