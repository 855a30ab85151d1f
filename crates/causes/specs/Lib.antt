pub mod Cause
pub mod Hold
pub mod SameLaws
