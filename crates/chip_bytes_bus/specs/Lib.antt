pub mod Store
pub mod StoreLaws
pub mod Heard
pub mod HeardLaws
