pub mod Held
pub mod Any
