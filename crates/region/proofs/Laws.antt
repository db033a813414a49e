pub mod Region
pub mod Words
