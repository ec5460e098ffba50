pub mod Notices
pub mod Filing
pub mod Layering
