pub mod Going
pub mod Cases
