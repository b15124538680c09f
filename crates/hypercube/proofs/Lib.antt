pub mod GrayCode
pub mod Hypercube
pub mod Exponents
pub mod Answers
pub mod Figures
