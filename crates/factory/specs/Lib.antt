pub mod Rigging
pub mod Switching
pub mod Throwing
pub mod Naming
