pub mod Filing
pub mod Kept
pub mod Lent
pub mod Numbered
pub mod Props
pub mod Slices
