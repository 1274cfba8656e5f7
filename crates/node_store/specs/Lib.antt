pub mod Strings
pub mod Slots
