pub mod Tests
pub mod CopyLaws
pub mod RowLaws
pub mod WordLaws
