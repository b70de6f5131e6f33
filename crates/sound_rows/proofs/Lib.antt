pub mod OwnFields
pub mod Tests
