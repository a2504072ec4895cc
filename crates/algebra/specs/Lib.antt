pub mod Literals
pub mod Marks
pub mod Expressions
pub mod Left
pub mod Laws
pub mod Rules
pub mod Of
