pub mod Packing
pub mod Alls
pub mod Leasts
pub mod Betweens
