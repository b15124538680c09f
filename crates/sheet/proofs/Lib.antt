pub mod Fields
pub mod Writing
pub mod Pages
pub mod Outcomes
pub mod Reading
pub mod Figures
