pub mod Cases
pub mod NoCounts
