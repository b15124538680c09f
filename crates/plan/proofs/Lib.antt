pub mod Jobs
pub mod Planned
pub mod Answers
pub mod Room
pub mod Example
