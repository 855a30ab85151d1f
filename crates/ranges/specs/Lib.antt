pub mod Refusal
pub mod CountedLaws
