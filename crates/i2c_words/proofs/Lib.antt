pub mod DigitsLaws
pub mod ExactLaws
