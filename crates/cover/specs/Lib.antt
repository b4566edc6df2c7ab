pub mod Distances
pub mod Choices
