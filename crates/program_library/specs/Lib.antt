pub mod Commands
pub mod Runs
pub mod RunLaws
pub mod Endings
pub mod Named
