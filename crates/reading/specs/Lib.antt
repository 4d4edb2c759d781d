pub mod Joints
pub mod LineParts
pub mod Readers
pub mod Spots
