pub mod Parts
pub mod Exact
