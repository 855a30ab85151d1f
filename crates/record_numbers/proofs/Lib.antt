pub mod Tests
pub mod Ints
