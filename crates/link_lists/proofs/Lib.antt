pub mod Answers
pub mod Parts
pub mod Plans
pub mod Positions
