pub mod Convert
pub mod SameLaws
