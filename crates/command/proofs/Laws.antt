pub mod Rows
pub mod Modes
pub mod Fits
pub mod Carries
pub mod Sent
