mod Testing
mod Trying
pub mod Holding
