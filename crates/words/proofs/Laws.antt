pub mod Runs
pub mod Counts
pub mod Words
pub mod Walk
pub mod Fewer
