pub mod Runs
pub mod OneEntry
pub mod History
pub mod Carrying
pub mod Plain
pub mod Sound
pub mod Promises
