pub mod Output
pub mod Runs
