pub mod Images
pub mod There
pub mod Back
pub mod Places
pub mod Moving
pub mod Laid
pub mod Returning
