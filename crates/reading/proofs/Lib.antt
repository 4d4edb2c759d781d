pub mod Changes
pub mod Counting
pub mod LineFacts
pub mod LineItems
pub mod LineReads
pub mod Longest
pub mod PartTotals
pub mod Places
