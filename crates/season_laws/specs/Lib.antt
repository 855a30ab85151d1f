pub mod GrownLaws
pub mod ColumnsLaws
pub mod SingleLaws
pub mod PlacesLaws
