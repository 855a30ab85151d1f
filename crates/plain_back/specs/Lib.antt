pub mod Moved
pub mod Said
pub mod Walk
