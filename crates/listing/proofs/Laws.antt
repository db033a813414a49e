pub mod Frames
pub mod Listing
