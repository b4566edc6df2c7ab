pub mod Words
pub mod Begins
pub mod Narrowing
pub mod Offsets
