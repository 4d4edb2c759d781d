pub mod Props
pub mod Sheets
