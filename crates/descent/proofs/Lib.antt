pub mod Powers
pub mod Pins
pub mod Options
pub mod Alike
pub mod Heights
pub mod Stack
pub mod Counts
