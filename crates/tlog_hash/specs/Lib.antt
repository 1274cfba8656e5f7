pub mod Tree
pub mod Shape
pub mod Rows
pub mod Blocks
pub mod Nodes
pub mod Sum
pub mod Laws
