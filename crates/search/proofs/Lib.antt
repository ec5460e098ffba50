pub mod Standing
pub mod Settling
pub mod Leading
pub mod Linking
