pub mod Edited
pub mod Pairs
pub mod Changing
pub mod Enrolled
pub mod Leasts
pub mod Fines
pub mod Rooms
