pub mod Rows
pub mod Kept
pub mod Linked
pub mod Numbered
