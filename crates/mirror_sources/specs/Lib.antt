pub mod Recorded
pub mod Source
pub mod Files
pub mod Replies
pub mod Honest
