pub mod Rise
pub mod Why
pub mod Off
pub mod SameLaws
