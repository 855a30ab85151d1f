pub mod Choice
pub mod Excess
