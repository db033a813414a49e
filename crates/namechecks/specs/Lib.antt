pub mod Refusals
pub mod Opened
