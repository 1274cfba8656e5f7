pub mod Answers
pub mod Number
pub mod Hash
pub mod Laws
