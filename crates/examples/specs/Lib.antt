pub mod Resolving
pub mod Rows
pub mod Table
