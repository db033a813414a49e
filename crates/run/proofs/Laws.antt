pub mod Run
pub mod Trace
pub mod Accepted
pub mod Script
pub mod Prefix
pub mod Walk
