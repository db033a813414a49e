pub mod Memory
pub mod Shown
pub mod Output
pub mod Settled
