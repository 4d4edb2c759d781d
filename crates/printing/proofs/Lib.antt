pub mod Buffers
pub mod Hexadecimals
