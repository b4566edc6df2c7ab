pub mod Scan
pub mod Numerals
pub mod Lines
pub mod Mistakes
pub mod Reading
