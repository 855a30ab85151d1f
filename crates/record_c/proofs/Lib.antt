pub mod Ints
pub mod Told
