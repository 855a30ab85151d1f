pub mod Asked
pub mod Asks
pub mod DoneLaws
pub mod SameLaws
