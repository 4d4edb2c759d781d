pub mod Depths
pub mod Seeks
