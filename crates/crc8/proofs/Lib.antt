pub mod Spread
pub mod DivisionLaws
