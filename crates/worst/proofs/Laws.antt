pub mod Worst
pub mod Blank
pub mod Reached
