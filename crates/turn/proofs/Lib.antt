pub mod Runs
pub mod Cases
pub mod Counting
