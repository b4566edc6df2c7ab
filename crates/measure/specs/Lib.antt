pub mod Windows
pub mod Reading
