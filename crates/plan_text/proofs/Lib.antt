pub mod Lines
pub mod Example
pub mod Lengths
pub mod Handing
