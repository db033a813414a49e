pub mod Effect
pub mod Straight
mod Turn
pub mod Mask
pub mod Page
pub mod Cut
pub mod Rise
