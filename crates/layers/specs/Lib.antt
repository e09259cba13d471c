pub mod Crossed
pub mod Pair
pub mod Mirrors
pub mod Parts
