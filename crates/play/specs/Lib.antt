pub mod Text
pub mod FewLaws
pub mod WholeLaws
