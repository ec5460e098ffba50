pub mod Suits
pub mod Rows
pub mod Preference
