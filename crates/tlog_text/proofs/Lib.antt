pub mod Decimals
pub mod Hashes
pub mod Decided
pub mod Newlines
