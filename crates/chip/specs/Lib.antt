pub mod Instructions
pub mod Chip
