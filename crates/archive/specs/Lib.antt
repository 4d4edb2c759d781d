pub mod Archives
pub mod Chapters
pub mod Volumes
