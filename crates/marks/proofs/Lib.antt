pub mod Kept
pub mod Replayed
