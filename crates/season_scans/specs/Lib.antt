pub mod Rows
pub mod SameLaws
