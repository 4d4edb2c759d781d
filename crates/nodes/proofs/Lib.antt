pub mod Bounds
pub mod Shapes
