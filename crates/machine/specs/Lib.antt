pub mod Legs
pub mod LegNumbers
pub mod Actions
pub mod Laws
pub mod SingleLegs
pub mod OneLeg
pub mod LegNumbersLemmas
