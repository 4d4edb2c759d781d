pub mod Output
pub mod Numerals
