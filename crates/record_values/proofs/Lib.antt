pub mod Ints
pub mod Laid
pub mod Told
