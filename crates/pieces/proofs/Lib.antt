pub mod Breaks
pub mod Cuts
pub mod Elements
pub mod Props
pub mod Sewn
pub mod SourceParts
pub mod Spreads
