pub mod Decision
pub mod Plain
pub mod AsideLaws
pub mod DecisionLaws
