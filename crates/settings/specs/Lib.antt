pub mod State
pub mod Write
pub mod Read
pub mod Laws
