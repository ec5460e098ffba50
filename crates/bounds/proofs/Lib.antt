pub mod Partners
pub mod Turns
pub mod Tables
