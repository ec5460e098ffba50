pub mod Components
pub mod Ranges
pub mod Pairs
pub mod Counting
pub mod Offering
pub mod Pairing
pub mod Ranging
