pub mod Padding
pub mod Moduli
pub mod Rows
pub mod Multiplying
pub mod Taking
pub mod Finished
