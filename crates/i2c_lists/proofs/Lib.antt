pub mod Tests
pub mod Steps
pub mod Writing
pub mod Listing
pub mod AnswersLaws
pub mod WordingLaws
pub mod NumberingLaws
pub mod FirstSpace
