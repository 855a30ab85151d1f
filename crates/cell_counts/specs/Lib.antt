pub mod Scan
pub mod PaddedLaws
