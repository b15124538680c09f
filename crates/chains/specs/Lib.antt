pub mod Stages
pub mod Walks
