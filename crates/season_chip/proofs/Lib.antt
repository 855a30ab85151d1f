pub mod HeardLaws
pub mod CodedLaws
pub mod PartsLaws
