pub mod Bit
pub mod BoolLaws
pub mod Numbers
pub mod BytesLaws
