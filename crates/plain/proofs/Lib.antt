pub mod Cases
pub mod Loop
pub mod NoRunsLaws
pub mod SameLaws
