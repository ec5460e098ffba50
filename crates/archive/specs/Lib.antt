pub mod Meaning
pub mod Choices
pub mod Sets
pub mod Alike
pub mod Suited
pub mod Compared
