pub mod Detected
pub mod Wired
pub mod Coded
pub mod Model
pub mod Throws
