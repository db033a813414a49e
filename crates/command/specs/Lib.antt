pub mod Command
pub mod Fits
