pub mod Blank
pub mod Rows
pub mod Striking
