pub mod Bounds
pub mod Reached
pub mod Runs
pub mod Finds
pub mod Front
pub mod Readings
