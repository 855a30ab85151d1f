pub mod TripLaws
pub mod OwnLaws
