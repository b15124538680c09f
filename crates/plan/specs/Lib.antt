pub mod ShareText
pub mod Prints
pub mod Printed
