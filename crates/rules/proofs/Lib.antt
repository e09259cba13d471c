pub mod Refusing
pub mod Mapping
pub mod Outcomes
