pub mod Grown
pub mod Plainly
