pub mod Probes
pub mod Edges
pub mod SingleQuestions
