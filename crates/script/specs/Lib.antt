pub mod Denials
pub mod Paper
