pub mod Shares
pub mod Figures
