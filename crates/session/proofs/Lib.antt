pub mod Moving
pub mod Talking
pub mod Handled
