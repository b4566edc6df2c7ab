pub mod Trials
pub mod Centres
pub mod Seen
