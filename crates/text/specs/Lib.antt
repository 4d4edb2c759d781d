pub mod Props
pub mod Texts
