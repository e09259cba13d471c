pub mod Together
pub mod Effects
