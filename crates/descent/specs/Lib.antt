pub mod Pins
pub mod Judged
