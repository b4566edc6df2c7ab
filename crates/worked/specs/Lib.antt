pub mod Feeds
pub mod Cases
