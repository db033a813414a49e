pub mod Kept
pub mod After
