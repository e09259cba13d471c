pub mod Seen
pub mod Linked
pub mod Accounted
