pub mod Halls
pub mod Talks
pub mod Seen
