pub mod Streak
pub mod StreakLaws
pub mod Fault
pub mod Runs
pub mod Judged
pub mod TablesLaws
pub mod Laws
pub mod Repeat
