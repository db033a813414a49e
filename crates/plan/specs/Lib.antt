pub mod Plan
pub mod Refusals
pub mod Update
pub mod Whole
