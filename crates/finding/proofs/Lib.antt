pub mod Seeking
pub mod Handing
