pub mod Line
pub mod Put
pub mod Decimal
pub mod FewLaws
pub mod SameLaws
