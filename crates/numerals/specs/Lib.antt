pub mod Words
pub mod Decimal
pub mod Lines
pub mod Output
pub mod Puts
