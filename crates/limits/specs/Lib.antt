pub mod Rule
pub mod Sag
pub mod TicksLaws
pub mod LimitsLaws
