pub mod Fed
pub mod Alone
pub mod SizeLaws
pub mod KeptLaws
pub mod FedLaws
