pub mod Bytes
pub mod Verbs
pub mod Commands
