pub mod BestLaws
pub mod Excess
pub mod ReadingsLaws
