pub mod Plans
pub mod Shaped
pub mod Sized
pub mod Positions
pub mod Lent
pub mod Checked
