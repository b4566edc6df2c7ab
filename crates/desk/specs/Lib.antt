pub mod Asks
pub mod Accounts
pub mod Seen
