pub mod FirstLine
pub mod Dots
