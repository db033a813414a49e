pub mod Models
pub mod Chip
