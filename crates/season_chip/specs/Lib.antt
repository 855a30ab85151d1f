pub mod Stored
pub mod AskedLaws
