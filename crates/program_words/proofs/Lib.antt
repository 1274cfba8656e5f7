pub mod Named
pub mod Judging
mod Places
pub mod Refusing
pub mod Lines
pub mod CommandLaws
