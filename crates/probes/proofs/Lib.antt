pub mod Falls
pub mod Ranges
pub mod Edges
pub mod Filling
pub mod Outcomes
pub mod SingleQuestions
pub mod Figures
