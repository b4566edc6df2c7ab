pub mod Seen
pub mod Edits
pub mod Radii
