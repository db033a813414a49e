pub mod Run
pub mod Script
