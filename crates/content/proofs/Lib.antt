pub mod Reverts
pub mod Staying
