pub mod Readable
pub mod Told
pub mod Machine
pub mod Readings
