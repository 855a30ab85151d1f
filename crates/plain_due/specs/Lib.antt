pub mod Streaks
pub mod Decision
