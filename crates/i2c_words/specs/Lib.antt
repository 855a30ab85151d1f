pub mod Grammar
pub mod Reader
pub mod SpacesLaws
