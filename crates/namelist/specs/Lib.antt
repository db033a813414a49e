pub mod Listed
pub mod Twice
