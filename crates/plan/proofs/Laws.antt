pub mod Steps
pub mod Plan
pub mod Refusals
pub mod Update
