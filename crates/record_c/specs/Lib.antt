pub mod Calls
pub mod Trip
