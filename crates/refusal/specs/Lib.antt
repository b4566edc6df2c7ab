pub mod Codes
pub mod Makes
pub mod Texts
