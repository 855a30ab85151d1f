pub mod Bus
pub mod LineLaws
