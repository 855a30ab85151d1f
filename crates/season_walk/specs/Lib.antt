pub mod Scans
pub mod SettledLaws
pub mod PiecesLaws
pub mod EventsLaws
pub mod BegunLaws
