pub mod Given
pub mod Answers
pub mod Places
pub mod Checks
pub mod Slabs
pub mod Choices
