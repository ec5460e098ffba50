pub mod Declining
pub mod Lifting
