pub mod Reports
pub mod Questions
pub mod Pulling
pub mod Comparisons
