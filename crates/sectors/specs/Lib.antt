pub mod Images
pub mod Moves
pub mod Laid
