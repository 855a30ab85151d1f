pub mod Place
pub mod Kept
pub mod Layout
pub mod ListedLaws
pub mod Did
