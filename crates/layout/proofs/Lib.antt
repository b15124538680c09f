pub mod Lists
pub mod Places
pub mod Shaped
pub mod Plans
pub mod Owners
pub mod Positions
pub mod Lent
