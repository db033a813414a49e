pub mod Pieces
pub mod Walk
pub mod Answers
pub mod Divided
