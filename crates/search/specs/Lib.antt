pub mod Ranked
pub mod Chosen
