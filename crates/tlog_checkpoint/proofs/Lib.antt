pub mod LineLemmas
pub mod Answered
pub mod Uniqueness
pub mod OneAnswer
pub mod Written
pub mod Decided
