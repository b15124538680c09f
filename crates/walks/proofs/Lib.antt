pub mod Filling
pub mod Walking
