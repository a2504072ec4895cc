pub mod Keys
pub mod Maps
pub mod Search
