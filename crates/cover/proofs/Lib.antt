pub mod Pigeons
pub mod Nearest
pub mod Farthest
