pub mod Limits
pub mod Hull
pub mod Joinery
pub mod Combined
pub mod Laid
pub mod Gaps
pub mod Hamming
