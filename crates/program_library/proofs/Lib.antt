mod Doable
mod MadeKeys
pub mod Keyed
mod Signers
mod PulledStates
mod Orders
