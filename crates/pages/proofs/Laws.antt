pub mod Spans
pub mod Parts
pub mod Pages
pub mod Region
pub mod Search
pub mod Walk
pub mod Fewer
