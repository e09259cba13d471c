pub mod Rigging
pub mod Calling
pub mod Ending
