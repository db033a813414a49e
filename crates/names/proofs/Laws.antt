pub mod Front
pub mod Names
pub mod Padded
pub mod Reader
pub mod Search
pub mod Walk
pub mod Sought
