pub mod Scans
pub mod DoneLaws
