pub mod OneResource
pub mod OneResponse
pub mod Replying
pub mod Seeing
pub mod ServedProofs
pub mod Statuses
