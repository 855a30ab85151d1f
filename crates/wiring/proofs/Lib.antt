pub mod Table
pub mod Packing
pub mod Inputs
pub mod UpwardLaws
pub mod Kept
pub mod LinkedLaws
pub mod Numbered
