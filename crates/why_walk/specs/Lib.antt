pub mod Says
pub mod Standing
