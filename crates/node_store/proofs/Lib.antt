pub mod Sets
pub mod Pools
pub mod Partway
pub mod Rests
