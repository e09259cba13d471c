pub mod Looks
pub mod Chains
pub mod Points
pub mod Performing
pub mod Accounts
