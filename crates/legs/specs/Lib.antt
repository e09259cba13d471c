pub mod Letters
pub mod Refusals
pub mod Ends
pub mod Crossing
pub mod Combined
