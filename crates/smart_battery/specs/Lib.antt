pub mod Words
pub mod Reply
pub mod WorkedLaws
