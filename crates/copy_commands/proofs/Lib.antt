mod Performing
mod Serving
mod StateAsking
mod Compares
mod Writing
mod StateServing
mod Naming
mod PlacePerforming
