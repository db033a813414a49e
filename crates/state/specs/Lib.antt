pub mod State
pub mod Answer
pub mod Protection
pub mod Status
pub mod Soundness
pub mod Power
pub mod Time
pub mod SoundRows
