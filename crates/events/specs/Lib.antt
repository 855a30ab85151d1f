pub mod Setup
pub mod Event
pub mod Fault
pub mod FewLaws
pub mod Role
pub mod RangesLaws
pub mod MeantLaws
