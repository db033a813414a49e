pub mod Comparing
pub mod Listed
pub mod Position
pub mod Prints
pub mod Reading
pub mod Twice
