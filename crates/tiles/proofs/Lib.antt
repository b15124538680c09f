pub mod Numbering
pub mod Along
pub mod Asked
pub mod Coordinates
pub mod Inside
pub mod Numbers
pub mod Steps
