pub mod Suiting
pub mod Ordering
pub mod Agreeing
pub mod Naming
pub mod Below
