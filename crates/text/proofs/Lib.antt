pub mod Edited
pub mod Sourced
pub mod Standings
