pub mod Calls
pub mod Refusals
pub mod Verdicts
pub mod Messages
pub mod Answers
pub mod Snapshots
