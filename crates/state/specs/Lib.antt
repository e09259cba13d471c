pub mod Service
pub mod State
