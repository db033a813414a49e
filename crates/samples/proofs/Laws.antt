pub mod Plans
mod Plan
pub mod Sessions
