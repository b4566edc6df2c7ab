pub mod Leading
pub mod Spans
pub mod Taken
