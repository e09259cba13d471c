pub mod Switches
pub mod Decisions
pub mod Starting
pub mod Connecting
pub mod Moving
pub mod Judging
pub mod Deciding
