pub mod Totals
pub mod Bits
pub mod Words
pub mod Sizes
