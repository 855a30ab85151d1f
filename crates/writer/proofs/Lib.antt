pub mod Refusals
pub mod Stores
pub mod CheckedLaws
pub mod TripLaws
pub mod AcceptedLaws
pub mod AgainLaws
