pub mod Bounds
pub mod Behind
pub mod Inside
pub mod Rows
pub mod Fronts
pub mod Neighbours
pub mod Answers
pub mod Lent
