pub mod Anys
pub mod Rows
