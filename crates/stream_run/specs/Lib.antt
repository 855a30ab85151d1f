pub mod Stream
pub mod Often
