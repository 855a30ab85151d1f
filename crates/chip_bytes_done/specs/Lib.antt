pub mod Swept
pub mod SweptLaws
pub mod Tick
pub mod TickLaws
pub mod Seldom
pub mod SeldomLaws
