pub mod Shallow
pub mod Standing
