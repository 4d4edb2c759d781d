pub mod Faithful
pub mod Halves
pub mod Sources
pub mod Spread
