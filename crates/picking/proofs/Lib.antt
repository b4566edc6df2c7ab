pub mod Greatest
pub mod Lowerings
pub mod Spreading
pub mod Choosing
pub mod Shelves
pub mod Takings
pub mod Latests
