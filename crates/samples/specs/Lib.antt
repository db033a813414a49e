pub mod Session
pub mod Table
